-- Texts that are articles.
use Rattle.std.specs.Prelude.{ℕ, List}
use Rattle.news_terms.specs.Article.{Article, IsArticleText}

-- the text is an article's, whichever it is (RFC 5536, sections 2 and 3.1)
abbrev pub IsArticle : List ℕ → Type 0
IsArticle text = (a : Article) × IsArticleText text a
