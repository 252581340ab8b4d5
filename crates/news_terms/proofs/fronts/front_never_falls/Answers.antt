use Rattle.news_terms.proofs.FrontLaws.{front_never_falls}
use Rattle.news_terms.proofs.fronts.front_never_falls.Goals as goal

pub returns : goal.returns
returns c = front_never_falls
