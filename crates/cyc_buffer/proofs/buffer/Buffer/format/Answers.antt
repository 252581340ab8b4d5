-- Nothing was begun in a buffer that is made; where the device failed the store is handed back.
use Rattle.std.proofs.Common.{◌<◌, ◌≡◌, ◌∙◌, ◌+◌, ℕ, None, Some, length, refl, sym, subst}
use Rattle.cyc_buffer.specs.BufferState.{Keeps}
use Rattle.cyc_buffer.specs.Head.{LeavesBlocks}
use Rattle.cyc_buffer.specs.History.{History, new_history}
use Rattle.cyc_buffer.specs.declared.buffer_state.BufferState.{BufferState}
use Rattle.cyc_buffer.proofs.Contents.{no_open}
use Rattle.cyc_buffer.proofs.Writes.{with_error, without_error}
use Rattle.cyc_buffer.proofs.buffer.Buffer.format.Goals as goal

pub returns-in-Err : goal.returns-in-Err
returns-in-Err g c = record {
  new = tt;
  opened = tt;
  unmarked = tt;
  idle = tt;
  written = tt;
  others = tt;
  blocks = tt;
  calls = tt;
  failures = tt;
  refusal = refl;
}

pub returns-then-is_err : goal.returns-then-is_err
returns-then-is_err g c =
    let back = sym c.into_store-store.ensures in
    record {
      new = tt;
      opened = tt;
      unmarked = tt;
      idle = tt;
      written = tt;
      others = tt;
      blocks = tt;
      calls = tt;
      failures = tt;
      refusal = (
        subst (λ s. g.S.BlockStore.failures c.args.store < g.S.BlockStore.failures s) back
            (with_error c.write_head.result (sym c.is_err.ensures.value ∙ c.if-is_err.true)
            c.write_head.ensures.failed),
        subst (λ s. g.S.BlockStore.calls s ≡ g.S.BlockStore.calls c.args.store + 1) back
            c.write_head.ensures.calls,
        subst (LeavesBlocks g.S.BlockStore c.args.store) back c.write_head.ensures.rest.store,
      );
    }

-- nothing was finished yet
none_finished : {A : Type 0} {x : A} → None ≡ Some x → ⊥
none_finished e = cc

pub returns-clause-failures : goal.returns-clause-failures
returns-clause-failures g c =
    without_error c.write_head.result (sym c.is_err.ensures.value ∙ c.if-is_err.false)
    c.write_head.ensures.no_failure

pub returns-clause-new : goal.returns-clause-new
returns-clause-new g c trusted honest =
    let H : ℕ → History = λ blocks. new_history (record {
      number = c.args.number;
      blocks = blocks;
      first_cycle = c.args.first_cycle;
    }) in
    let left = c.write_head.ensures.rest in
    record {
      keeps = subst (λ (r : BufferState). Keeps r (H (length (g.S.BlockStore.blocks c.args.store))))
          (sym left.buffer_state)
          (subst (λ (n : ℕ). Keeps c.in-Ok.buffer_state (H n)) c.count-blocks.ensures.blocks
          c.in-Ok.ensures.keeps);
      honest = λ is. left.store.honest (honest is);
      holds = λ is. record {
        articles = λ cycle first k article finished. absurd (none_finished finished);
        open_one = no_open _ _;
      };
    }
