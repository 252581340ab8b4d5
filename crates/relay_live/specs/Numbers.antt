-- The numbers of sessions (docs/PROTOCOL.md, Threads).
use Rattle.std.specs.Prelude.{ℕ}
use Rattle.relay_live.specs.declared.drawing.Last.{Last}
use Rattle.relay_live.specs.declared.drawing.Number.{Number}

-- the number that was drawn last, 0 before the first
abbrev pub last_of : {L : Type 0} → Last L → ℕ
last_of last = last.number

-- the value of a number that was drawn
abbrev pub number_of : {L : Type 0} → Number L → ℕ
number_of number = number.value
