-- What is gone says where to look.
use Rattle.std.proofs.Common.{Option, subst}
use Rattle.stream_cut.specs.Past.{HasDropped}
use Rattle.stream_cut.specs.declared.past.Within.{Within}
use Rattle.stream_cut.proofs.past.look_at_block.Goals as goal

pub returns-in-Some : goal.returns-in-Some
returns-in-Some c = λ gone h. c.look_past.ensures c.args.limit gone
    (subst (λ (w : Option Within). HasDropped c.args.limit w gone c.args.kept.now) c.in-Some.is h)
