-- The lines of a report that are about one thing.
use Rattle.std.specs.Prelude.{ℕ, Bool, true, false, List, [], ◌∷◌, filter, max, unwrap_or}
use Rattle.relay_metrics.specs.Lines.{Line}
use Rattle.relay_metrics.specs.declared.lines.Subject.{Subject}
use Rattle.relay_metrics.specs.declared.lines.Subject.TheVariants.{Buffer, Feed, Oldest, Size}
use Rattle.relay_page.specs.Bars.{number_at}

-- what a line is about is this: a buffer of a relay that is served, or the size or the oldest
-- article of a buffer
abbrev pub is_about : (subject other : Subject) → Bool
is_about Buffer Buffer = true
is_about Size Size = true
is_about Oldest Oldest = true
is_about subject other = false

-- the line is about this
abbrev pub is_of : Subject → Line → Bool
is_of subject line = is_about subject line.subject

-- the lines about buffers of a relay that is served
abbrev pub buffers_in : List Line → List Line
buffers_in lines = filter (is_of Buffer) lines

-- the lines about buffers' sizes
abbrev pub sizes_in : List Line → List Line
sizes_in lines = filter (is_of Size) lines

-- the lines about buffers' oldest articles
abbrev pub oldest_in : List Line → List Line
oldest_in lines = filter (is_of Oldest) lines

-- how many tokens wait by a line about this, 0 where that is no feed
abbrev pub waiting_by : Subject → Line → ℕ
waiting_by Feed line = unwrap_or (number_at line 0) 0
waiting_by subject line = 0

-- how many tokens wait by a line
abbrev pub waiting_in : Line → ℕ
waiting_in line = waiting_by line.subject line

-- the most tokens that wait in the ring of a feed
abbrev pub most_waiting : List Line → ℕ
most_waiting [] = 0
most_waiting (line ∷ lines) = max (waiting_in line) (most_waiting lines)
