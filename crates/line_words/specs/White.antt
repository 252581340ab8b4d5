-- White space at the end of a text.
use Rattle.std.specs.Prelude.{ℕ, List, reverse}
use Rattle.news_terms.specs.Article.{without_leading_white}

-- a text up to its last octet that is no SP or TAB
abbrev pub without_trailing_white : List ℕ → List ℕ
without_trailing_white text = reverse (without_leading_white (reverse text))
