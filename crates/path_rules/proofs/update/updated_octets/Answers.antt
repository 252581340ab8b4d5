use Rattle.std.proofs.Common.{◌+◌, ◌-◌, ◌^◌, min, length, ap, ◌∙◌, ℕ, List}
use Rattle.article_parse.specs.Article.{article_view}
use Rattle.path_rules.proofs.UpdateLengths.{octets_of_all}
use Rattle.path_rules.proofs.update.updated_octets.Goals as goal

pub returns : goal.returns
returns c =
    octets_of_all c.args.own.now c.args.expected.now (article_view c.args.article.now)
    c.fields-field-items.result.now c.loop-field.field-index c.loop-field.octets
    c.saturating_add-octets.result c.fields-field-items.ensures c.loop-field-test.false
    c.loop-field.invariant.within
    (c.saturating_add-octets.ensures
    ∙ ap (λ (x : List ℕ). min (length x + 2) (2 ^ 64 - 1)) c.body.ensures)
    c.loop-field.invariant.summed
