-- The text of a report (docs/FORMATS.md, Report).
use Rattle.std.specs.Prelude.{ℕ, ◌-◌, List, ◌++◌, codes, decimal, flat_map, length}
use Rattle.std.specs.Prelude.{replicate}
use Rattle.id_history.specs.declared.counts.Counts.{Counts}
use Rattle.relay_report.specs.Figures.{NamedBuffer, NamedFeed}

-- so many spaces
abbrev pub spaces : ℕ → List ℕ
spaces n = replicate n 32

-- a text that stands left in so many places; a longer one stands in full
abbrev pub left_in : ℕ → List ℕ → List ℕ
left_in places text = text ++ spaces (places - length text)

-- a text that stands right in so many places; a longer one stands in full
abbrev pub right_in : ℕ → List ℕ → List ℕ
right_in places text = spaces (places - length text) ++ text

-- a name in its column
abbrev pub name_column : List ℕ → List ℕ
name_column name = left_in 16 name

-- a number in its column
abbrev pub column : ℕ → List ℕ
column n = right_in 11 (decimal n)

-- a number in a wide column
abbrev pub wide_column : ℕ → List ℕ
wide_column n = right_in 20 (decimal n)

-- numbers, each in so many places, and the end of their line
abbrev pub numbers_line : List (ℕ × ℕ) → List ℕ
numbers_line columns =
    flat_map (λ (one : ℕ × ℕ). right_in one.1 (decimal one.0)) columns ++ codes "\n"

-- the line of a buffer
abbrev pub buffer_line : NamedBuffer → List ℕ
buffer_line buffer =
    codes "buffer " ++ name_column buffer.name ++ column buffer.figures.cycle
    ++ wide_column buffer.figures.front ++ column buffer.figures.begun
    ++ column buffer.figures.stored ++ codes "\n"

-- the line of a feed
abbrev pub feed_line : NamedFeed → List ℕ
feed_line feed =
    codes "feed   " ++ name_column feed.peer ++ column feed.figures.waiting
    ++ wide_column feed.figures.gained ++ column feed.figures.overwritten ++ codes "\n"

-- the line of the message-ids
abbrev pub ids_line : Counts → List ℕ
ids_line ids =
    codes "ids    " ++ column ids.offered ++ column ids.storing ++ column ids.stored
    ++ column ids.refused ++ codes "\n"

-- the text of a report of these buffers, these feeds and these message-ids
abbrev pub report_text : List NamedBuffer → List NamedFeed → Counts → List ℕ
report_text buffers feeds ids =
    flat_map buffer_line buffers ++ flat_map feed_line feeds ++ ids_line ids
