use Rattle.std.proofs.Common.{◌∙◌, ap, arith, sym, true}
use Rattle.std.proofs.lemmas.List.{take_rest}
use Rattle.news_terms.specs.Article.{is_set_off}
use Rattle.article_parse.proofs.FieldLines.{no_colon, with_colon}
use Rattle.article_parse.proofs.header.begins_field.Goals as goal

pub returns-then-colon-line : goal.returns-then-colon-line
returns-then-colon-line c =
    sym (no_colon c.args.line.now (sym c.requires.value ∙ c.if-colon-line.true))

pub returns-then-is_field_name : goal.returns-then-is_field_name
returns-then-is_field_name c =
    with_colon c.args.line.now c.args.colon true c.is_set_off.result c.requires.value (omega arith)
    c.if-is_field_name.ensures
    (c.is_set_off.ensures ∙ ap is_set_off (take_rest c.args.line.now _))
