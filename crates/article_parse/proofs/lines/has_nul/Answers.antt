use Rattle.std.proofs.Common.{◌∙◌, eqb}
use Rattle.article_parse.proofs.Pairs.{found_any}
use Rattle.article_parse.proofs.lines.has_nul.Goals as goal

pub returns : goal.returns
returns c =
    c.is_some.ensures ∙ found_any (λ x. eqb x 0) c.args.text.now c.memchr.result c.memchr.ensures
