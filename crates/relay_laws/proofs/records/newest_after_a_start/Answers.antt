use Rattle.std.proofs.Common.{refl}
use Rattle.relay_laws.proofs.records.newest_after_a_start.Goals as goal

pub returns-clause-none : goal.returns-clause-none
returns-clause-none c = λ failures. refl

pub returns-clause-third : goal.returns-clause-third
returns-clause-third c = λ failures. refl
