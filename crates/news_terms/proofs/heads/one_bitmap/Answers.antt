use Rattle.news_terms.proofs.Bitmaps.{same_marks}
use Rattle.news_terms.proofs.heads.one_bitmap.Goals as goal

pub returns : goal.returns
returns c = same_marks
