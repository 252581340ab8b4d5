use Rattle.relay_names.specs.Views.{line_view, names_view}
use Rattle.relay_names.proofs.OneMore.{said_more}
use Rattle.relay_names.proofs.parts.names_by.Goals as goal

pub loop-line-preserved : goal.loop-line-preserved
loop-line-preserved c =
    said_more line_view c.args.lines.now c.loop-line.line-index _ (names_view c.loop-line.names)
    (names_view c.add.new.self) c.loop-line-test.true c.loop-line.invariant
    c.in_ok-add.ensures.buffers c.in_ok-add.ensures.groups c.in_ok-add.ensures.feeds
