use Rattle.news_terms.proofs.PickedBegins.{begins_here, begins_elsewhere}
use Rattle.news_terms.proofs.PickedPlaces.{pick_within}
use Rattle.news_terms.proofs.picks.begins_follow_picks.Goals as goal

pub returns-clause-here : goal.returns-clause-here
returns-clause-here c = begins_here

pub returns-clause-elsewhere : goal.returns-clause-elsewhere
returns-clause-elsewhere c = begins_elsewhere

pub returns-clause-within : goal.returns-clause-within
returns-clause-within c = pick_within
