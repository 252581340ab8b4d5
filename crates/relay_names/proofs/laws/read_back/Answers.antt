use Rattle.relay_names.proofs.ReadBack.{told_again}
use Rattle.relay_names.proofs.laws.read_back.Goals as goal

pub returns : goal.returns
returns c told is = told_again told is
