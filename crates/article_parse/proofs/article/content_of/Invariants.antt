use Rattle.std.proofs.Common.{◌≡◌, drop}
use Rattle.std.specs.Prelude.{map}
use Rattle.news_terms.specs.Article.{contents_of}
use Rattle.article_parse.specs.Header.{field_view}
use Rattle.article_parse.proofs.article.content_of.Given as goal

-- the fields passed have other names
abbrev pub invariant-loop-field : goal.invariant-loop-field
invariant-loop-field l =
    contents_of l.name (map field_view l.fields)
    ≡ contents_of l.name (map field_view (drop l.field-index l.fields))
