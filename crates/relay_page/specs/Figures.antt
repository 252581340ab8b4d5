-- The numbers of a line on the page: each behind its word, or in a cell of a table.
use Rattle.std.specs.Prelude.{ℕ, List, [], ◌∷◌, ◌++◌, codes, flat_map, slice_get, Option, None}
use Rattle.std.specs.Prelude.{Some}
use Rattle.relay_metrics.specs.Lines.{Line}
use Rattle.relay_page.specs.declared.figures.Figure as code

-- A number of a line: its place there, and what stands before and behind it.
pub record Figure : Type 0 where
  pub place : ℕ
  pub before : List ℕ
  pub behind : List ℕ

-- a number of the code as the definitions have it
abbrev pub figure_view : code.Figure → Figure
figure_view figure =
    record { place = figure.place; before = figure.before.now; behind = figure.behind.now }

-- a number behind its word: `<span>cycle <b>0</b></span>`
abbrev pub worded : (word : List ℕ) → (place : ℕ) → Figure
worded word place =
    record {
      place = place;
      before = codes "<span>" ++ word ++ codes " <b>";
      behind = codes "</b></span>\n";
    }

-- a number in a cell of a table: `<td>0</td>`
abbrev pub cell : (place : ℕ) → Figure
cell place = record { place = place; before = codes "<td>"; behind = codes "</td>" }

-- the numbers of a buffer
abbrev pub buffer_figures : List Figure
buffer_figures =
    worded (codes "cycle") 0 ∷ worded (codes "front") 1 ∷ worded (codes "articles begun") 2
    ∷ worded (codes "articles whole") 3 ∷ []

-- the numbers of a buffer's size
abbrev pub size_figures : List Figure
size_figures = worded (codes "blocks") 0 ∷ worded (codes "filled") 1 ∷ []

-- the number of a buffer's oldest article
abbrev pub oldest_figures : List Figure
oldest_figures = worded (codes "oldest article since") 0 ∷ []

-- the numbers of a feed
abbrev pub feed_figures : List Figure
feed_figures =
    worded (codes "waiting") 0 ∷ worded (codes "gained") 1 ∷ worded (codes "overwritten") 2 ∷ []

-- the numbers of the message-ids
abbrev pub ids_figures : List Figure
ids_figures =
    worded (codes "offered") 0 ∷ worded (codes "storing") 1 ∷ worded (codes "stored") 2
    ∷ worded (codes "refused") 3 ∷ []

-- the numbers of a peer
abbrev pub peer_figures : List Figure
peer_figures = cell 0 ∷ cell 1 ∷ cell 2 ∷ cell 3 ∷ cell 4 ∷ cell 5 ∷ cell 6 ∷ []

-- the numbers of what was refused of a peer
abbrev pub refusal_figures : List Figure
refusal_figures =
    cell 0 ∷ cell 1 ∷ cell 2 ∷ cell 3 ∷ cell 4 ∷ cell 5 ∷ cell 6 ∷ cell 7 ∷ []

-- a number with what stands round it
abbrev pub number_text : Figure → (number : List ℕ) → List ℕ
number_text figure number = figure.before ++ number ++ figure.behind

-- a number with what stands round it, where it is there
abbrev pub number_or_none : Figure → Option (List ℕ) → List ℕ
number_or_none figure None = []
number_or_none figure (Some number) = number_text figure number

-- a number of a line
abbrev pub figure_text : Line → Figure → List ℕ
figure_text line figure = number_or_none figure (slice_get line.numbers figure.place)

-- these numbers of a line
abbrev pub figures_text : List Figure → Line → List ℕ
figures_text figures line = flat_map (figure_text line) figures
