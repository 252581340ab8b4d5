use Rattle.news_terms.proofs.CoursePositions.{position_next}
use Rattle.news_terms.proofs.courses.positions_follow.Goals as goal

pub returns : goal.returns
returns c = record { moves = position_next }
