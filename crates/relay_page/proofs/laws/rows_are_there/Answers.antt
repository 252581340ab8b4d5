use Rattle.relay_page.proofs.Places.{row_there}
use Rattle.relay_page.proofs.laws.rows_are_there.Goals as goal

pub returns : goal.returns
returns c = row_there
