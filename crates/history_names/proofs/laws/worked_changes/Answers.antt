use Rattle.std.proofs.Common.{refl}
use Rattle.std.specs.Fmt.{digits}
use Rattle.history_names.proofs.laws.worked_changes.Goals as goal

pub returns-clause-told : goal.returns-clause-told
unfolding digits
returns-clause-told c = refl

pub returns-clause-same : goal.returns-clause-same
returns-clause-same c = refl
