-- The buffers and groups of the worked examples of places.
use Rattle.std.specs.Prelude.{[], ◌∷◌}
use Rattle.news_terms.specs.Places.{Buffer, Group, Interleave, Sequential}

-- a buffer of eight blocks, numbered 0
abbrev pub eight : Buffer
eight = record { number = 0; blocks = 8; first_cycle = 0 }

-- a buffer of six blocks, numbered 1
abbrev pub six : Buffer
six = record { number = 1; blocks = 6; first_cycle = 0 }

-- a group of one buffer
abbrev pub one_of_eight : Group
one_of_eight = record { mode = Interleave; buffers = eight ∷ [] }

-- the same buffer, filled one run after the other
abbrev pub eight_by_itself : Group
eight_by_itself = record { mode = Sequential; buffers = eight ∷ [] }

-- a group that fills one buffer after the other
abbrev pub eight_then_six : Group
eight_then_six = record { mode = Sequential; buffers = eight ∷ six ∷ [] }

-- a group that takes its buffers in turn
abbrev pub eight_and_six : Group
eight_and_six = record { mode = Interleave; buffers = eight ∷ six ∷ [] }
