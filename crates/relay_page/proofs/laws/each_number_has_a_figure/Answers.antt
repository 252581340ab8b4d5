use Rattle.std.proofs.Common.{refl}
use Rattle.relay_page.proofs.Places.{number_there}
use Rattle.relay_page.proofs.laws.each_number_has_a_figure.Goals as goal

pub returns : goal.returns
returns c = record { all = refl; told = number_there }
