-- What the page has of each line of a report.
use Rattle.std.specs.Prelude.{ℕ, suc, Bool, not, List, [], ◌∷◌, ◌++◌, bytes_eq, codes, slice_get}
use Rattle.std.specs.Prelude.{option_and_then, Option, None, Some, if◌then◌else◌}
use Rattle.std.specs.List.{list_any}
use Rattle.relay_metrics.specs.Lines.{Line}
use Rattle.relay_metrics.specs.declared.lines.Subject.{Subject}
use Rattle.relay_metrics.specs.declared.lines.Subject.TheVariants.{Address, Feed, Ids, Paused}
use Rattle.relay_metrics.specs.declared.lines.Subject.TheVariants.{Peer, Recovering, Refusals}
use Rattle.relay_metrics.specs.declared.lines.Subject.TheVariants.{Repaired}
use Rattle.relay_page.specs.Bars.{bar_text, hundredths, number_at, share_of}
use Rattle.relay_page.specs.Figures.{Figure, buffer_figures, feed_figures, figures_text}
use Rattle.relay_page.specs.Figures.{ids_figures, oldest_figures, peer_figures, refusal_figures}
use Rattle.relay_page.specs.Figures.{size_figures}
use Rattle.relay_page.specs.Text.{escaped}
use Rattle.relay_page.specs.declared.rows.Part.{Part}
use Rattle.relay_page.specs.declared.rows.Part.TheVariants as parts

-- what is told of a relay that is being repaired
abbrev pub notice : List ℕ
notice = codes "<p>The relay is being repaired and serves nobody yet.</p>\n"

-- what is told of a relay that is paused
abbrev pub paused_notice : List ℕ
paused_notice = codes "<p>The relay is paused and takes no new articles.</p>\n"

-- a name as a heading
abbrev pub heading : (name : List ℕ) → List ℕ
heading name = codes "<h3>" ++ escaped name ++ codes "</h3>\n"

-- numbers in a paragraph
abbrev pub paragraph : (numbers : List ℕ) → List ℕ
paragraph numbers = codes "<p>\n" ++ numbers ++ codes "</p>\n"

-- how many hundredths of the most the tokens are that wait by a line of a feed
abbrev pub waiting_share : (most : ℕ) → Line → Option ℕ
waiting_share most line = option_and_then (λ waiting. hundredths waiting most) (number_at line 0)

-- a feed: its name, a bar of the tokens that wait, and its numbers
abbrev pub feed_row : (most : ℕ) → Line → List ℕ
feed_row most line =
    heading line.name ++ bar_text (waiting_share most line)
    ++ paragraph (figures_text feed_figures line)

-- the numbers of the message-ids
abbrev pub ids_row : Line → List ℕ
ids_row line = paragraph (figures_text ids_figures line)

-- a line as a row of a table: its name, and these of its numbers in cells
abbrev pub table_row : List Figure → Line → List ℕ
table_row figures line =
    codes "<tr><th>" ++ escaped line.name ++ codes "</th>" ++ figures_text figures line
    ++ codes "</tr>\n"

-- the number isn't 0
abbrev pub is_some_number : (number : List ℕ) → Bool
is_some_number number = not (bytes_eq number (codes "0"))

-- what was refused of a peer as a row of a table, where anything was
abbrev pub refusals_row : Line → List ℕ
refusals_row line =
    if list_any is_some_number line.numbers then table_row refusal_figures line else []

-- a peer and the address of its newest connection
abbrev pub address_row : Line → List ℕ
address_row line = codes "<span>" ++ escaped line.name ++ codes "</span>\n"

-- what a part of the page has of a line about this; in no feed wait more tokens than `most`
abbrev pub row_about : Part → (most : ℕ) → Subject → Line → List ℕ
row_about parts.Notice most Recovering line = notice
row_about parts.Notice most Paused line = paused_notice
row_about parts.Repaired most Repaired line = heading line.name
row_about parts.Feeds most Feed line = feed_row most line
row_about parts.Ids most Ids line = ids_row line
row_about parts.Peers most Peer line = table_row peer_figures line
row_about parts.Refusals most Refusals line = refusals_row line
row_about parts.Addresses most Address line = address_row line
row_about part most subject line = []

-- what a part of the page has of a line
abbrev pub row_of : Part → (most : ℕ) → Line → List ℕ
row_of part most line = row_about part most line.subject line

-- how many hundredths of its blocks are filled, by the line of a buffer's size
abbrev pub share_by : Line → Option ℕ
share_by size = share_of (number_at size 1) (number_at size 0)

-- the same, where there is such a line
abbrev pub filled_share : Option Line → Option ℕ
filled_share size = option_and_then share_by size

-- the numbers of a buffer's size, where there is one
abbrev pub size_text : Option Line → List ℕ
size_text None = []
size_text (Some size) = figures_text size_figures size

-- since when a buffer's oldest article is there, where that is told
abbrev pub oldest_text : Option Line → List ℕ
oldest_text None = []
oldest_text (Some oldest) = figures_text oldest_figures oldest

-- a buffer: its name, a bar of what is filled, and its numbers, those of its size and of its oldest
-- article too
abbrev pub buffer_row : (size oldest : Option Line) → Line → List ℕ
buffer_row size oldest line =
    heading line.name ++ bar_text (filled_share size)
    ++ paragraph (figures_text buffer_figures line ++ size_text size ++ oldest_text oldest)

-- a line of a buffer's size, where it is of the buffer of this name
abbrev pub named_so : (name : List ℕ) → Line → Option Line
named_so name size = if bytes_eq size.name name then Some size else None

-- the size of the buffer of this name at this place: the one at the same place among the sizes,
-- where it is of that name
abbrev pub size_at : (sizes : List Line) → (place : ℕ) → (name : List ℕ) → Option Line
size_at sizes place name = option_and_then (named_so name) (slice_get sizes place)

-- what is told of the oldest article of the buffer of this name, by the first line of that name
abbrev pub oldest_of : (oldest : List Line) → (name : List ℕ) → Option Line
oldest_of [] name = None
oldest_of (line ∷ lines) name =
    if bytes_eq line.name name then Some line else oldest_of lines name

-- the buffers from this place on, each with its size, and with what is told of its oldest article
abbrev pub buffer_rows : (sizes oldest : List Line) → (place : ℕ) → (buffers : List Line) → List ℕ
buffer_rows sizes oldest place [] = []
buffer_rows sizes oldest place (buffer ∷ buffers) =
    buffer_row (size_at sizes place buffer.name) (oldest_of oldest buffer.name) buffer
    ++ buffer_rows sizes oldest (suc place) buffers
