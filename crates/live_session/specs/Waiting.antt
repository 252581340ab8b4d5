-- Replies that wait to be written.
use Rattle.std.specs.Prelude.{ℕ, ◌<◌, ◌^◌, List, length}

-- with so many octets or more they are written
abbrev pub most_waiting : ℕ
most_waiting = 2 ^ 16

-- fewer wait than are written
abbrev pub WaitsLittle : (outbox : List ℕ) → Type 0
WaitsLittle outbox = length outbox < most_waiting
