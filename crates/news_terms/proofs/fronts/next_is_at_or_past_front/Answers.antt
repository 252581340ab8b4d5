use Rattle.news_terms.proofs.FrontLaws.{next_at_or_past}
use Rattle.news_terms.proofs.fronts.next_is_at_or_past_front.Goals as goal

pub returns : goal.returns
returns c = next_at_or_past
