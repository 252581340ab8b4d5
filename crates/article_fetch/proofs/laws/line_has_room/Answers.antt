use Rattle.article_fetch.proofs.Rooms.{line_within}
use Rattle.article_fetch.proofs.laws.line_has_room.Goals as goal

pub returns : goal.returns
returns c = line_within
