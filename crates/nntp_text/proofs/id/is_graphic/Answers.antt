use Rattle.std.proofs.Common.{rules, tests}
use Rattle.std.proofs.lemmas.Iterator.{YieldsList-from_slice}
use Rattle.std.proofs.lemmas.Iterator.Search.{all_from_yields_List}
use Rattle.news_terms.specs.MessageId.{is_graphic}
use Rattle.nntp_text.proofs.id.is_graphic.Goals as goal

pub returns : goal.returns
returns c =
    all_from_yields_List is_graphic _ _ c.all.result c.all.ensures.ran
    (YieldsList-from_slice c.args.text.now c.iter.ensures.rest) (λ x b q k. search (rules, tests))
