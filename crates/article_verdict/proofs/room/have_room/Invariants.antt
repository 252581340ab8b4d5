use Rattle.std.proofs.Common.{◌≡◌, drop}
use Rattle.article_verdict.proofs.GroupRoom.{all_have_room}
use Rattle.article_verdict.proofs.room.have_room.Given as goal

-- the buffers of the numbers that are left decide
abbrev pub invariant-loop-number : goal.invariant-loop-number
invariant-loop-number l =
    all_have_room l.all l.blocks l.numbers
    ≡ all_have_room l.all l.blocks (drop l.number-index l.numbers)
