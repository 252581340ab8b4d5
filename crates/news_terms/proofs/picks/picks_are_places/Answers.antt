use Rattle.news_terms.proofs.PickedPlaces.{picked_places}
use Rattle.news_terms.proofs.picks.picks_are_places.Goals as goal

pub returns : goal.returns
returns c = picked_places
