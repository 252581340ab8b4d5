use Rattle.news_terms.proofs.FrontLaws.{next_some, next_among, next_ends}
use Rattle.news_terms.proofs.fronts.next_is_in_a_buffer.Goals as goal

pub returns-clause-some : goal.returns-clause-some
returns-clause-some c = next_some

pub returns-clause-among : goal.returns-clause-among
returns-clause-among c = next_among

pub returns-clause-ends : goal.returns-clause-ends
returns-clause-ends c = next_ends
