use Rattle.news_terms.proofs.PickedPositions.{picked_at, position_push}
use Rattle.news_terms.proofs.picks.positions_pick.Goals as goal

pub returns-clause-picks : goal.returns-clause-picks
returns-clause-picks c = picked_at

pub returns-clause-moves : goal.returns-clause-moves
returns-clause-moves c = position_push
