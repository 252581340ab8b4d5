use Rattle.std.proofs.Common.{ap, sym, not, arith}
use Rattle.feed_queue.proofs.DeskLemmas.{is_named-above}
use Rattle.feed_queue.proofs.desk.is_new.Goals as goal

-- a feed above all is none of them
pub returns-then-above-from : goal.returns-then-above-from
returns-then-above-from c below =
    sym (ap not (is_named-above c.args.before.now c.args.above c.args.feed below (omega arith)))
