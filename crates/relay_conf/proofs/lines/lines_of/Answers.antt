use Rattle.std.proofs.Common.{append_assoc}
use Rattle.std.proofs.lemmas.List.{map-append}
use Rattle.relay_conf.proofs.lines.lines_of.Goals as goal

pub loop-unread-preserved : goal.loop-unread-preserved
loop-unread-preserved c =
    rw (c.in_ok-push.ensures.items, map-append, append_assoc, ← c.next_line.ensures)
    (rw c.in-Some.is at c.loop-unread.invariant)
