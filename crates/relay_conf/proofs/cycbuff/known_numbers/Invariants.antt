use Rattle.std.proofs.Common.{◌≡◌, length}
use Rattle.relay_conf.specs.Cycbuff.{known_numbers}
use Rattle.line_words.specs.Parts.{parts, parts_after}
use Rattle.relay_conf.proofs.Numbered.{with_front}
use Rattle.relay_conf.proofs.cycbuff.known_numbers.Given as goal

-- the numbers so far stand before those of the names that are left
abbrev pub invariant-loop-unread : goal.invariant-loop-unread
invariant-loop-unread l =
    with_front l.numbers.items (known_numbers l.buffers (parts_after 44 l.unread))
    ≡ known_numbers l.buffers (parts 44 l.list)

abbrev pub decreases-loop-unread : goal.decreases-loop-unread
decreases-loop-unread l = length (parts_after 44 l.unread)
