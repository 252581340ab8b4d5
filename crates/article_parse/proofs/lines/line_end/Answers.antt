use Rattle.article_parse.proofs.Pairs.{line_cut}
use Rattle.article_parse.proofs.lines.line_end.Goals as goal

pub returns : goal.returns
returns c = line_cut c.args.text.now c.memchr2.result c.requires c.memchr2.ensures
