use Rattle.relay_page.proofs.Escapes.{name_unmarked}
use Rattle.relay_page.proofs.laws.names_have_no_marks.Goals as goal

pub returns : goal.returns
returns c = name_unmarked
