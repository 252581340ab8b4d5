use Rattle.news_terms.proofs.PickedPlaces.{used_of_position}
use Rattle.news_terms.proofs.picks.positions_are_fronts.Goals as goal

pub returns : goal.returns
returns c = used_of_position
