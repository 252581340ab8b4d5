use Rattle.std.proofs.Common.{refl}
use Rattle.relay_log.specs.Check.{check, sum_on, sum_step}
use Rattle.relay_log.proofs.laws.first_journal_example.Goals as goal

pub returns : goal.returns
unfolding check sum_on sum_step
returns c = refl
