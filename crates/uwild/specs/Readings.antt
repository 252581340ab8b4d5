-- What each text has.
use Rattle.std.specs.Prelude.{ℕ, List, ◌⊎◌}
use Rattle.news_terms.specs.Pattern.{Marked, ExpressionFault, IsExpressionText, HasLeftmostFault}

-- the text is an expression, or has a leftmost fault (docs/FORMATS.md, Patterns)
abbrev pub HasReading : List ℕ → Type 0
HasReading text =
    ((expression : List Marked) × IsExpressionText text expression)
    ⊎ ((fault : ExpressionFault) × HasLeftmostFault text fault)
