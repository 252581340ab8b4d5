use Rattle.news_terms.proofs.PickedPlaces.{picked_fronts}
use Rattle.news_terms.proofs.picks.fronts_are_fronts.Goals as goal

pub returns : goal.returns
returns c = picked_fronts
