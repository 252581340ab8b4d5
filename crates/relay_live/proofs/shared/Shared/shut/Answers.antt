use Rattle.std.proofs.Common.{◌≡◌, ◌∙◌, ℕ, length, refl, subst, sym, true}
use Rattle.std.proofs.lemmas.List.{length-map}
use Rattle.live_store.specs.Steps.{buffer_of}
use Rattle.relay_core.specs.Stopping.{next_stop}
use Rattle.relay_live.specs.Audits.{HasFrontOfEach}
use Rattle.relay_live.specs.Gains.{TellGained}
use Rattle.relay_live.specs.Stopping.{AreShutWith, ComesBack, IsStoring}
use Rattle.relay_live.proofs.Audited.{agreed, once_of}
use Rattle.relay_live.proofs.Parts.{as_many, came_out, failed_within, room_again, room_for}
use Rattle.relay_live.proofs.shared.Shared.shut.Goals as goal

-- there is no room for its parts
pub returns-in_default : goal.returns-in_default
returns-in_default g c = record {
  stores = tt;
  known = tt;
  shuts = tt;
  once = tt;
  unforgotten = λ unset. tt;
  read = λ set. tt;
  gained = tt;
  refused = record { buffers = refl; groups = refl; feeds = refl; ends = refl; remembers = refl };
}

-- or for their locks again
pub returns-in_default-new : goal.returns-in_default-new
returns-in_default-new g c = record {
  stores = tt;
  known = tt;
  shuts = tt;
  once = tt;
  unforgotten = λ unset. tt;
  read = λ set. tt;
  gained = tt;
  refused = record { buffers = refl; groups = refl; feeds = refl; ends = refl; remembers = refl };
}

-- a store of each buffer, and the parts were stopped at the stop after the relay's last
pub returns-in-Ok-shut : goal.returns-in-Ok-shut
returns-in-Ok-shut g c =
    let parts = c.into_alone-alone.ensures.parts in
    let shut = c.in-Ok-shut.ensures.shut in
    record {
      stores = shut.each.count
          ∙ length-map c.into_alone-alone.result.0.buffers.items buffer_of
          ∙ sym parts.buffers;
      known = subst
          (λ n. g.J.StorePremises.trusted ≡ true
          → AreShutWith g.S.BlockStore g.J.StorePremises.register (next_stop n)
          c.in-Ok-shut.stopped.stores.items)
          (sym parts.stop_is) shut.known;
      shuts = record {
        alone = c.into_alone-alone.result.0;
        came = came_out c.args.self c.into_alone-alone.result.0 _ parts;
        shuts = shut;
      };
      once = once_of c.in-Ok-audit.audit;
      unforgotten = λ unset. c.in-Ok-audit.ensures.unforgotten (sym parts.remembers ∙ unset);
      read = λ set. subst (λ (n : ℕ). HasFrontOfEach n c.in-Ok-audit.audit) (sym parts.buffers)
          (c.in-Ok-audit.ensures.read (λ unset. set (parts.remembers ∙ unset)));
      gained = agreed c.in-Ok-audit.audit c.into_alone-alone.result.0.posts.lost
          c.into_alone-alone.result.0.posts.all.history
          (λ posts. TellGained g.J.Naming.began g.J.Naming.rings posts
          c.in-Ok-shut.stopped.history.items)
          c.in-Ok-audit.ensures.whole c.in-Ok-shut.ensures.gained;
      refused = tt;
    }

-- there is no memory for what the shards say
pub over-requires : goal.over-requires
over-requires g c =
    let parts = c.into_alone-alone in
    room_again c.args.self parts.result.0 parts.result.0 _ parts.ensures.parts
    refl c.in-Ok-new.rooms parts.result.1.rooms parts.ensures.rooms
    (room_for c.in-Ok-new.rooms _ _ _ _ c.in-Ok-new.ensures
    (sym c.len-buffers.ensures)
    (sym (c.len-groups.ensures ∙ c.args.self.placed_groups.ok.0)))

pub returns-in_default-audit : goal.returns-in_default-audit
returns-in_default-audit g c =
    let parts = c.into_alone-alone in
    record {
      stores = tt;
      known = tt;
      shuts = tt;
      once = tt;
      unforgotten = λ unset. tt;
      read = λ set. tt;
      gained = tt;
      refused = as_many c.args.self parts.result.0 parts.result.0 _ parts.ensures.parts refl
          c.over.result c.over.ensures;
    }

-- parts that came back as they were go behind locks again
pub over-requires-in-Err-NotIdle : goal.over-requires-in-Err-NotIdle
over-requires-in-Err-NotIdle g c =
    let parts = c.into_alone-alone in
    let back = subst (ComesBack parts.result.0) c.in-Err-NotIdle.field-0-is
    c.in-Err-NotIdle.ensures.back in
    room_again c.args.self parts.result.0 c.in-Err-NotIdle.alone _ parts.ensures.parts
    back.0 c.in-Ok-new.rooms parts.result.1.rooms parts.ensures.rooms
    (room_for c.in-Ok-new.rooms _ _ _ _ c.in-Ok-new.ensures
    (sym c.len-buffers.ensures)
    (sym (c.len-groups.ensures ∙ c.args.self.placed_groups.ok.0)))

pub over-requires-in-Err-Memory : goal.over-requires-in-Err-Memory
over-requires-in-Err-Memory g c =
    let parts = c.into_alone-alone in
    let back = subst (ComesBack parts.result.0) c.in-Err-Memory.field-0-is
    c.in-Err-Memory.ensures.back in
    room_again c.args.self parts.result.0 c.in-Err-Memory.alone _ parts.ensures.parts
    back.0 c.in-Ok-new.rooms parts.result.1.rooms parts.ensures.rooms
    (room_for c.in-Ok-new.rooms _ _ _ _ c.in-Ok-new.ensures
    (sym c.len-buffers.ensures)
    (sym (c.len-groups.ensures ∙ c.args.self.placed_groups.ok.0)))

pub returns-in-Err-NotIdle : goal.returns-in-Err-NotIdle
returns-in-Err-NotIdle g c =
    let parts = c.into_alone-alone in
    let back = subst (ComesBack parts.result.0) c.in-Err-NotIdle.field-0-is
    c.in-Err-NotIdle.ensures.back in
    record {
      stores = tt;
      known = tt;
      shuts = tt;
      once = tt;
      unforgotten = λ unset. tt;
      read = λ set. tt;
      gained = tt;
      refused = (
        as_many c.args.self parts.result.0 c.in-Err-NotIdle.alone _ parts.ensures.parts back.0
            c.over-in-Err-NotIdle.result c.over-in-Err-NotIdle.ensures,
        record {
          alone = c.in-Err-NotIdle.alone;
          slots = length parts.result.1.slots.items;
          parts = c.over-in-Err-NotIdle.ensures;
          storing = subst IsStoring (sym back.0) back.1;
        },
      );
    }

pub returns-in-Err-Memory : goal.returns-in-Err-Memory
returns-in-Err-Memory g c =
    let parts = c.into_alone-alone in
    let back = subst (ComesBack parts.result.0) c.in-Err-Memory.field-0-is
    c.in-Err-Memory.ensures.back in
    record {
      stores = tt;
      known = tt;
      shuts = tt;
      once = tt;
      unforgotten = λ unset. tt;
      read = λ set. tt;
      gained = tt;
      refused = as_many c.args.self parts.result.0 c.in-Err-Memory.alone _ parts.ensures.parts
          back.0
          c.over-in-Err-Memory.result c.over-in-Err-Memory.ensures;
    }

-- a device failed, and all stores come back
pub returns : goal.returns
returns g c =
    let parts = c.into_alone-alone in
    let back = subst (ComesBack parts.result.0) c.in-Err-Device.field-0-is
    c.in-Err-Device.ensures.back in
    record {
      stores = tt;
      known = tt;
      shuts = tt;
      once = tt;
      unforgotten = λ unset. tt;
      read = λ set. tt;
      gained = tt;
      refused = (
        failed_within c.args.self parts.result.0 _ parts.ensures.parts
            c.in-Err-Device.number c.in-Err-Device.stores.items back.1,
        record {
          alone = parts.result.0;
          came = came_out c.args.self parts.result.0 _ parts.ensures.parts;
          rest = back.0;
          failed = back.1;
        },
      );
    }
