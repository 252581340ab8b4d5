use Rattle.relay_page.proofs.Escapes.{one_name}
use Rattle.relay_page.proofs.laws.names_that_differ_are_written_differently.Goals as goal

pub returns : goal.returns
returns c = one_name
