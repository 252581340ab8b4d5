use Rattle.repair_laws.proofs.BeforePlaces.{left_at_places}
use Rattle.repair_laws.proofs.laws.left_at_places.Goals as goal

pub returns : goal.returns
returns g c stores w v saved x openings = left_at_places
