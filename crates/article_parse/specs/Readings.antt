-- What each text has.
use Rattle.std.specs.Prelude.{ℕ, List, ◌⊎◌}
use Rattle.news_terms.specs.Article.{Article, Fault, IsArticleText, IsFirstFault}

-- the text is an article's, or has a first fault (docs/FORMATS.md, Articles)
abbrev pub HasReading : List ℕ → Type 0
HasReading text =
    ((a : Article) × IsArticleText text a) ⊎ ((fault : Fault) × IsFirstFault text fault)
