-- Contents of fields, as far as they are cut. Of this, public contracts cite `begins_white` alone.
use Rattle.std.specs.Prelude.{ℕ, Bool, List}
use Rattle.news_terms.specs.Article.{Field, continues_field, unfolded}
use Rattle.news_terms.specs.Article.{content_or_empty, name_of, Newsgroups}

-- the first octet is an SP or a TAB, as that of a line that continues a field
abbrev pub begins_white : List ℕ → Bool
begins_white text = continues_field text

-- the content of the first Newsgroups in one line
abbrev pub unfolded_newsgroups : List Field → List ℕ
unfolded_newsgroups fields = unfolded (content_or_empty (name_of Newsgroups) fields)
