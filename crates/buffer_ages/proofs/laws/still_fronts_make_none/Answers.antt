use Rattle.buffer_ages.proofs.Few.{none_due}
use Rattle.buffer_ages.proofs.laws.still_fronts_make_none.Goals as goal

pub returns : goal.returns
returns c marks mark blocks = none_due marks mark blocks
