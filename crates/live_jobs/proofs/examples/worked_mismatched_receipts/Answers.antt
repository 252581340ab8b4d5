use Rattle.std.proofs.Common.{refl}
use Rattle.live_jobs.proofs.examples.worked_mismatched_receipts.Goals as goal

pub returns-clause-none : goal.returns-clause-none
returns-clause-none g c = rw (c.requires.one, c.requires.two) refl

pub returns-clause-three : goal.returns-clause-three
returns-clause-three g c = rw (c.requires.one, c.requires.two) refl
