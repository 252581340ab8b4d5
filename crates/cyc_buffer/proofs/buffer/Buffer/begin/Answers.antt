-- A begin that is not refused keeps the buffer's agreement with a history.
use Rattle.std.proofs.lemmas.Result.{on_ok_weaker}
use Rattle.cyc_buffer.proofs.Contents.{holds_begin}
use Rattle.cyc_buffer.proofs.CrashSteps.{left_begin}
use Rattle.cyc_buffer.proofs.buffer.Buffer.begin.Goals as goal

pub returns-clause-begun : goal.returns-clause-begun
returns-clause-begun g c =
    let old = c.args.self.now.buffer_state in
    on_ok_weaker c.begin.result (λ begun trusted h agrees. record {
      keeps = begun h agrees.keeps;
      honest = agrees.honest;
      holds = λ is. holds_begin _ old c.begin.new.self h c.args.class c.args.length c.args.fresh
          agrees.keeps (begun h agrees.keeps) (agrees.holds is);
    }) c.begin.ensures.begun

pub returns-clause-leaves : goal.returns-clause-leaves
returns-clause-leaves g c =
    on_ok_weaker c.begin.result (λ begun h kept later agrees left still.
    left_begin h kept (g.S.BlockStore.blocks c.args.self.now.store) left agrees.keeps.sizes
    c.args.class c.args.length c.args.fresh later still) c.begin.ensures.begun
