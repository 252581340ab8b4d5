-- What is counted of a session.
use Rattle.std.specs.Prelude.{ℕ, ◌^◌}
use Rattle.live_session.specs.declared.counts.Counts.{Counts}
use Rattle.live_wire.specs.declared.tally.Tally.{Tally}

-- the number of the session's peer
abbrev pub is_of : Counts → ℕ
is_of counts = counts.peer

-- what was counted, of what the gate was told
abbrev pub counted_in : Counts → Tally
counted_in counts = counts.told

-- what was counted since then
abbrev pub untold_in : Counts → Tally
untold_in counts = counts.untold

-- the turns that were had
abbrev pub turns_in : Counts → ℕ
turns_in counts = counts.turns

-- the open offers of which the gate was told last
abbrev pub offers_in : Counts → ℕ
offers_in counts = counts.offers

-- octets of replies wait to be written only where they are fewer
abbrev pub most_waiting : ℕ
most_waiting = 65536

-- the turns that a session has at most
abbrev pub most_turns : ℕ
most_turns = 2 ^ 40
