use Rattle.news_terms.proofs.NextLemmas.{whole-append, oversize-append}
use Rattle.news_terms.proofs.cutting.next_block_grows.Goals as goal

pub returns-clause-whole : goal.returns-clause-whole
returns-clause-whole c = whole-append

pub returns-clause-oversize : goal.returns-clause-oversize
returns-clause-oversize c = oversize-append
