use Rattle.relay_page.proofs.Escapes.{name_read}
use Rattle.relay_page.proofs.laws.names_are_read_as_they_are.Goals as goal

pub returns : goal.returns
returns c = name_read
