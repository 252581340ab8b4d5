use Rattle.std.proofs.Common.{Bool, ap, refl, subst, ◌∙◌}
use Rattle.block_shelf.specs.Stopping.{HoldsKept, HoldsKeptLeft, IsBusyBufferSet}
use Rattle.block_shelf.specs.Stopping.{IsShutPartly, IsUnshut}
use Rattle.block_shelf.specs.declared.buffer_set.BufferSet.{BufferSet}
use Rattle.relay_core.proofs.Stops.{at_rest, not_busy, shuts}
use Rattle.relay_core.specs.Idle.{TellsIdle}
use Rattle.relay_core.specs.Unbuffered.{with_buffers}
use Rattle.relay_core.specs.declared.system.System.{System}
use Rattle.relay_core.proofs.system.System.shut.Goals as goal

-- an id is being stored
pub returns-then-not-is_idle : goal.returns-then-not-is_idle
returns-then-not-is_idle g c =
    let storing = subst (λ (b : Bool). TellsIdle c.args.self.shards b) c.if-not-is_idle.true
    c.is_idle.ensures in
    record {
      shut = tt;
      back = (refl, λ trusted x agrees. storing x.state.claim agrees.core.claims);
    }

-- there is no memory for the text
pub returns-in-Err : goal.returns-in-Err
returns-in-Err g c =
    record {
      shut = tt;
      back = (
        refl,
        at_rest c.args.self
            (subst (λ (b : Bool). TellsIdle c.args.self.shards b) c.if-not-is_idle.false
            c.is_idle.ensures),
      );
    }

-- the stores and the text hold each world
pub returns-in-Ok-shut : goal.returns-in-Ok-shut
returns-in-Ok-shut g c =
    let idle = subst (λ (b : Bool). TellsIdle c.args.self.shards b) c.if-not-is_idle.false
    c.is_idle.ensures in
    let H : BufferSet g.row.S.Denot g.S.BlockStore → Type 0 = λ buffer_set.
    HoldsKept c.next_stop-stop.result buffer_set c.in-Ok-shut.stores.items in
    let L : BufferSet g.row.S.Denot g.S.BlockStore → Type 0 = λ buffer_set.
    HoldsKeptLeft c.next_stop-stop.result buffer_set c.in-Ok-shut.stores.items in
    record {
      shut = shuts c.args.self c.next_stop-stop.result c.in-Ok-shut.stores.items
          c.in-Ok.history.items c.next_stop-stop.ensures idle c.in-Ok.ensures
          (subst H c.take_apart-buffer_set.ensures.buffer_set c.in-Ok-shut.ensures.held)
          (subst L c.take_apart-buffer_set.ensures.buffer_set c.in-Ok-shut.ensures.left);
      back = tt;
    }

-- a device failed
pub returns-in-Err-Device : goal.returns-in-Err-Device
returns-in-Err-Device g c =
    let idle = subst (λ (b : Bool). TellsIdle c.args.self.shards b) c.if-not-is_idle.false
    c.is_idle.ensures in
    let P : BufferSet g.row.S.Denot g.S.BlockStore → Type 0 = λ buffer_set.
    IsShutPartly buffer_set c.in-Err-Device.number c.in-Err-Device.stores.items in
    record {
      shut = tt;
      back = (
        at_rest c.args.self idle,
        subst P c.take_apart-buffer_set.ensures.buffer_set
            (subst (IsUnshut c.take_apart-buffer_set.result.0) c.in-Err-Device.field-0-is
            c.in-Err-Device.ensures.refusal),
      );
    }

-- an article is being written: the relay is put together again
pub returns-in-Err-Busy : goal.returns-in-Err-Busy
returns-in-Err-Busy g c =
    let idle = subst (λ (b : Bool). TellsIdle c.args.self.shards b) c.if-not-is_idle.false
    c.is_idle.ensures in
    let unshut = subst (IsUnshut c.take_apart-buffer_set.result.0) c.in-Err-Busy.field-0-is
    c.in-Err-Busy.ensures.refusal in
    let whole : BufferSet g.row.S.Denot g.S.BlockStore → System g.row.S.Denot g.S.BlockStore =
    λ buffer_set. with_buffers c.take_apart-buffer_set.result.1 buffer_set in
    let busy = subst (λ (b : BufferSet g.row.S.Denot g.S.BlockStore). IsBusyBufferSet b)
    c.take_apart-buffer_set.ensures.buffer_set unshut.1 in
    record {
      shut = tt;
      back = (
        c.with.ensures ∙ ap whole unshut.0 ∙ c.take_apart-buffer_set.ensures.whole,
        λ trusted x agrees. absurd (not_busy c.args.self idle busy trusted x agrees),
      );
    }

-- memory was refused
pub returns : goal.returns
returns g c =
    let idle = subst (λ (b : Bool). TellsIdle c.args.self.shards b) c.if-not-is_idle.false
    c.is_idle.ensures in
    let unshut = subst (IsUnshut c.take_apart-buffer_set.result.0) c.in-Err-Memory.field-0-is
    c.in-Err-Memory.ensures.refusal in
    let whole : BufferSet g.row.S.Denot g.S.BlockStore → System g.row.S.Denot g.S.BlockStore =
    λ buffer_set. with_buffers c.take_apart-buffer_set.result.1 buffer_set in
    record {
      shut = tt;
      back = (
        c.with-in-Err-Memory.ensures ∙ ap whole unshut ∙ c.take_apart-buffer_set.ensures.whole,
        at_rest c.args.self idle,
      );
    }
