-- The lines of a configuration file.
use Rattle.std.specs.Prelude.{ℕ, ◌==◌, Bool, List, [], ◌∷◌, Option, None, Some, ◌++◌, ◌&&◌, ◌-◌}
use Rattle.std.specs.Prelude.{not, slice_index, length}
use Rattle.std.specs.List.{list_all}
use Rattle.std.specs.Str.Lines.{strip_carriage_return}
use Rattle.std.specs.Borrow.{Bor}
use Rattle.news_terms.specs.Article.{line_feed, carriage_return}
use Rattle.line_words.specs.Parts.{parts}

-- the lines in the parts between LFs: one that LF ends is without the CR before it
-- (docs/FORMATS.md, Configuration)
abbrev pub lines_in : List (List ℕ) → List (List ℕ)
lines_in [] = []
lines_in (last ∷ []) = last ∷ []
lines_in (line ∷ next ∷ more) = strip_carriage_return line ∷ lines_in (next ∷ more)

-- the lines of a text, each ended by LF or CRLF, the last by the end of the text
-- (docs/FORMATS.md, Configuration)
abbrev pub lines_of : (text : List ℕ) → List (List ℕ)
lines_of text = lines_in (parts line_feed text)

-- the lines of what is left of a text
abbrev pub lines_after : Option (Bor (List ℕ)) → List (List ℕ)
lines_after None = []
lines_after (Some rest) = lines_of rest.now

-- a line that may stand before either line end: no LF, and no CR at its end
abbrev pub is_line : List ℕ → Bool
is_line line =
    list_all (λ c. not (c == line_feed)) line
    && not (slice_index line (length line - 1) == carriage_return)

-- lines with this between them
abbrev pub joined_by : (ending : List ℕ) → (lines : List (List ℕ)) → List ℕ
joined_by ending [] = []
joined_by ending (last ∷ []) = last
joined_by ending (line ∷ next ∷ more) = line ++ ending ++ joined_by ending (next ∷ more)
