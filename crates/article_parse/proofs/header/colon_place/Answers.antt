use Rattle.std.proofs.Common.{◌∙◌, eqb}
use Rattle.std.specs.Str.{byte}
use Rattle.article_parse.proofs.Pairs.{found_place}
use Rattle.article_parse.proofs.header.colon_place.Goals as goal

pub returns-clause-value : goal.returns-clause-value
returns-clause-value c =
    c.unwrap_or.ensures
    ∙ found_place (λ x. eqb x (byte ":")) c.args.line.now c.memchr.result c.memchr.ensures
