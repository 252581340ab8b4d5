use Rattle.std.proofs.Common.{◌≡◌, ◌++◌, map, drop}
use Rattle.std.specs.Prelude.{flat_map}
use Rattle.news_terms.specs.Article.{field_text}
use Rattle.news_terms.specs.Path.{updated_field}
use Rattle.article_parse.specs.Header.{field_view}
use Rattle.path_rules.proofs.update.updated_text.Given as goal

-- the fields written and the updates of those left are the updates of all
abbrev pub invariant-loop-field : goal.invariant-loop-field
invariant-loop-field l =
    l.text.items
    ++ flat_map field_text
    (map (updated_field l.own l.expected) (map field_view (drop l.field-index l.field-items)))
    ≡ flat_map field_text (map (updated_field l.own l.expected) (map field_view l.field-items))
