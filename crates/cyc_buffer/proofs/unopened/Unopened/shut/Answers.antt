-- The store of a buffer that is shut before it was opened holds what a stopped one does.
use Rattle.std.proofs.Common.{◌∙◌, ap, subst, sym}
use Rattle.cyc_buffer.specs.Crash.{IsLeftOf}
use Rattle.cyc_buffer.specs.Head.{LeavesBlocks}
use Rattle.cyc_buffer.specs.Stopped.{HoldsStopped}
use Rattle.cyc_buffer.proofs.unopened.Unopened.shut.Goals as goal

pub returns-in-Ok : goal.returns-in-Ok
returns-in-Ok g c =
    let was = c.in-Ok.ensures in
    let given = c.into_store.ensures in
    let rest = subst (LeavesBlocks g.S.BlockStore c.args.self.buffer.store) (sym given)
    was.rest.store in
    record {
      held = λ h agrees. subst (λ s. HoldsStopped (g.S.BlockStore.heads s)
          (g.S.BlockStore.blocks s) c.args.stop h) (sym given) (was.held h agrees);
      rest = rest;
      calls = ap g.S.BlockStore.calls given ∙ was.calls;
      no_failure = ap g.S.BlockStore.failures given ∙ was.no_failure;
      refusal = tt;
      busy = was.busy;
      same = tt;
      left = tt;
      order = tt;
      leaves = λ honest h kept left. subst (IsLeftOf h kept) (sym (rest.blocks honest)) left;
      leaves_refused = tt;
    }

pub returns-in-Err : goal.returns-in-Err
returns-in-Err g c =
    let was = c.in-Err.ensures in
    record {
      held = tt;
      rest = tt;
      calls = tt;
      no_failure = tt;
      refusal = was.refusal;
      busy = λ is. tt;
      same = was.same;
      left = was.rest;
      order = was.order;
      leaves = tt;
      leaves_refused = λ honest h kept left.
          subst (IsLeftOf h kept) (sym (was.rest.store.blocks honest)) left;
    }
