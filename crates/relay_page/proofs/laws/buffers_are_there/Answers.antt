use Rattle.relay_page.proofs.Places.{buffer_there}
use Rattle.relay_page.proofs.laws.buffers_are_there.Goals as goal

pub returns : goal.returns
returns c = buffer_there
