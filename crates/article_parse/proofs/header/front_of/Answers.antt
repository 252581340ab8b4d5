use Rattle.article_parse.proofs.HeaderCuts.{plain_no_blank}
use Rattle.article_parse.proofs.header.front_of.Goals as goal

pub returns-in-None : goal.returns-in-None
returns-in-None c = plain_no_blank c.args.text.now c.in-None.ensures
