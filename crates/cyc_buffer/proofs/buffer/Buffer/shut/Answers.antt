-- The store of a stopped buffer holds what the buffer's did.
use Rattle.std.proofs.Common.{◌∙◌, ap, length, subst, sym}
use Rattle.cyc_buffer.specs.Head.{LeavesBlocks}
use Rattle.cyc_buffer.specs.Stopped.{HoldsStopped}
use Rattle.cyc_buffer.proofs.buffer.Buffer.shut.Goals as goal

pub returns-in-Ok : goal.returns-in-Ok
returns-in-Ok g c =
    let was = c.in-Ok.ensures in
    let given = c.into_store.ensures in
    record {
      held = λ h agrees. subst (λ s. HoldsStopped (g.S.BlockStore.heads s)
          (g.S.BlockStore.blocks s) c.args.stop h) (sym given) (was.held h agrees);
      honest = λ is. subst g.S.BlockStore.honest (sym given) (was.rest.store.honest is);
      count = ap (λ s. length (g.S.BlockStore.blocks s)) given ∙ was.rest.store.count;
      blocks = subst (LeavesBlocks g.S.BlockStore c.args.self.store) (sym given) was.rest.store;
      calls = ap g.S.BlockStore.calls given ∙ was.calls;
      no_failure = ap g.S.BlockStore.failures given ∙ was.no_failure;
      refusal = tt;
      busy = was.busy;
      same = tt;
      head = tt;
      rest = tt;
      order = tt;
    }

pub returns-in-Err : goal.returns-in-Err
returns-in-Err g c =
    let was = c.in-Err.ensures in
    record {
      held = tt;
      honest = tt;
      count = tt;
      blocks = tt;
      calls = tt;
      no_failure = tt;
      refusal = was.refusal;
      busy = λ is. tt;
      same = was.same;
      head = was.rest.opened;
      rest = was.rest;
      order = was.order;
    }
