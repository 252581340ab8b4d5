use Rattle.relay_report.proofs.Lines.{one_space}
use Rattle.relay_report.proofs.columns.put_spaces.Goals as goal

-- one space more
pub loop-preserved : goal.loop-preserved
loop-preserved c =
    one_space c.args.text.now.items c.loop.text.items c.push.new.self.items c.loop.counter
    c.loop.invariant c.in_ok-push.ensures.items
