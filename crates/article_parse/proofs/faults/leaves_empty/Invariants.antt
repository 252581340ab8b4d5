use Rattle.std.proofs.Common.{◌≡◌, drop, map}
use Rattle.std.specs.List.{list_any}
use Rattle.news_terms.specs.Article.{contents_of, is_empty, trimmed}
use Rattle.article_parse.specs.Header.{field_view}
use Rattle.article_parse.proofs.faults.leaves_empty.Given as goal

-- no field so far has the name and nothing but white space
abbrev pub invariant-loop-field : goal.invariant-loop-field
invariant-loop-field l =
    list_any (λ c. is_empty (trimmed c))
    (contents_of l.name (map field_view (drop l.field-index l.fields)))
    ≡ list_any (λ c. is_empty (trimmed c)) (contents_of l.name (map field_view l.fields))
