-- The bitmap is written, and then head block 0: together they hold the buffer as stopped.
use Rattle.std.proofs.Common.{◌≡◌, ◌∙◌, ◌<◌, false, inl, inr, List, ℕ, refl, sym, subst, ap, arith}
use Rattle.std.specs.Prelude.{Result, Ok, Err, IfErr, OnErr, OnOk}
use Rattle.std.proofs.lemmas.Bool.{false≢true}
use Rattle.std.proofs.lemmas.Result.{on_ok_weaker}
use Rattle.cyc_block.specs.declared.store.BlockStore.{Ghosts}
use Rattle.cyc_buffer.specs.Agreement.{Holds}
use Rattle.cyc_buffer.specs.Head.{IsHeadFault, IsStopRefusal, LeavesBuffer, is_busy}
use Rattle.cyc_buffer.specs.declared.answers.BufError.{BufError}
use Rattle.cyc_buffer.specs.declared.answers.BufError.TheVariants as errors
use Rattle.cyc_buffer.specs.declared.buffer.Buffer.{Buffer}
use Rattle.cyc_buffer.proofs.StopLemmas.{holds_stopped, tells_starts, still_agrees, written_bitmap}
use Rattle.cyc_buffer.proofs.StopLemmas.{under, none_of, leaves_twice}
use Rattle.cyc_buffer.proofs.Writes.{with_error, without_error}
use Rattle.cyc_buffer.proofs.buffer.Buffer.write_heads.Goals as goal

-- what is so whatever the result is
on_ok : {A E P : Type 0} (r : Result A E) → P → OnOk r P
on_ok (Ok x) p = p
on_ok (Err e) p = tt

-- a head block that isn't written is why a buffer that isn't busy isn't stopped
refused : {S A : Type 0} {g : Ghosts S} (old new : Buffer S g) (r : Result A BufError)
    → is_busy old ≡ false → IfErr r (IsHeadFault old)
    → OnErr r (g.failures old.store < g.failures new.store)
    → IfErr r (λ error. IsStopRefusal old error new)
refused old new (Ok x) idle fault failed = tt
refused old new (Err e) idle fault failed =
    subst (λ (error : BufError). IsStopRefusal old error new) (sym fault) (idle, refl, failed)

-- a failure behind what didn't fail
later : {A E : Type 0} (r : Result A E) (old mid new : ℕ) → mid ≡ old → OnErr r (mid < new)
    → OnErr r (old < new)
later (Ok x) old mid new same failed = tt
later (Err e) old mid new same failed = omega (arith, same, failed)

pub returns-then-is_some : goal.returns-then-is_some
returns-then-is_some g c = record {
  held = tt;
  calls = tt;
  no_failure = tt;
  refusal = (sym c.is_some.ensures ∙ c.if-is_some.true, refl);
  busy = λ is. tt;
  same = λ trusted h agrees. agrees;
  rest = record {
    buffer_state = refl;
    opened = refl;
    stop = refl;
    store = record { honest = λ is. is; blocks = λ is. refl; count = refl };
  };
  order = λ is. inl refl;
}

pub returns-then-is_err : goal.returns-then-is_err
returns-then-is_err g c =
    let was = c.write_bitmap.ensures in
    record {
      held = tt;
      calls = tt;
      no_failure = tt;
      refusal = (
        sym c.is_some.ensures ∙ c.if-is_some.false,
        ap errors.Device c.fault.ensures,
        with_error c.write_bitmap.result (sym c.is_err.ensures.value ∙ c.if-is_err.true) was.failed,
      );
      busy = λ is. tt;
      same = still_agrees c.args.self.now _ (record {
        buffer_state = refl;
        opened = refl;
        stop = refl;
        store = was.rest;
      });
      rest = record { buffer_state = refl; opened = refl; stop = refl; store = was.rest };
      order = λ is. inl (was.first is);
    }

pub returns : goal.returns
returns g c =
    let r = c.args.self.now.buffer_state in
    let was = c.write_bitmap.ensures in
    let head = c.write_head.ensures in
    let fine = sym c.is_err.ensures.value ∙ c.if-is_err.false in
    let idle = sym c.is_some.ensures ∙ c.if-is_some.false in
    let same = without_error c.write_bitmap.result fine was.no_failure in
    let left : LeavesBuffer c.args.self.now c.write_head.new.self = record {
      buffer_state = head.rest.buffer_state;
      opened = head.rest.opened;
      stop = head.rest.stop;
      store = leaves_twice _ _ _ _ was.rest head.rest.store;
    } in
    record {
      held = on_ok_weaker c.write_head.result (λ numbers h agrees.
          let is = agrees.honest refl in
          holds_stopped r (g.S.BlockStore.heads c.write_head.new.self.store)
          (g.S.BlockStore.blocks c.write_head.new.self.store) c.args.stop h agrees.keeps
          (subst (λ (blocks : List (List ℕ)). Holds blocks r h) (sym (left.store.blocks is))
          (agrees.holds refl))
          (none_of r.progress idle)
          (left.store.count ∙ sym c.args.self.now.counted) head.fit
          (numbers (was.rest.honest is))
          (written_bitmap c.write_bitmap.result (g.S.BlockStore.heads c.write_bitmap.new.store)
          (g.S.BlockStore.heads c.write_head.new.self.store) r.starts.words.items
          _ _ c.args.self.now.counted fine
          (was.bitmap is) (head.others (was.rest.honest is))))
          (under _ c.write_head.result head.head);
      calls = on_ok c.write_head.result
          (omega (arith, without_error c.write_bitmap.result fine was.calls, head.calls));
      no_failure = on_ok_weaker c.write_head.result (λ e. e ∙ same) head.no_failure;
      refusal = refused c.args.self.now c.write_head.new.self c.write_head.result idle head.fault
          (later c.write_head.result (g.S.BlockStore.failures c.args.self.now.store)
          (g.S.BlockStore.failures c.write_bitmap.new.store)
          (g.S.BlockStore.failures c.write_head.new.self.store) same head.failed);
      busy = λ is. absurd (false≢true (sym idle ∙ is));
      same = still_agrees c.args.self.now c.write_head.new.self left;
      rest = left;
      order = λ is. inr (λ h agrees. tells_starts r
          (g.S.BlockStore.heads c.write_head.new.self.store) h agrees.keeps
          (written_bitmap c.write_bitmap.result (g.S.BlockStore.heads c.write_bitmap.new.store)
          (g.S.BlockStore.heads c.write_head.new.self.store) r.starts.words.items
          _ _ c.args.self.now.counted fine
          (was.bitmap is) (head.others (was.rest.honest is))));
    }
