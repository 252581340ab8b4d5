-- What StuffRoom says.
use Rattle.news_terms.proofs.StuffRoom.{stuffed-bounded}
use Rattle.news_terms.proofs.cutting.stuffed_is_bounded.Goals as goal

pub returns : goal.returns
returns c = stuffed-bounded
