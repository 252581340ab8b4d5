use Rattle.std.proofs.Common.{refl}
use Rattle.std.specs.Fmt.{digits}
use Rattle.relay_page.proofs.examples.worked_pages.Goals as goal

pub returns-clause-served : goal.returns-clause-served
unfolding digits
returns-clause-served c = refl

pub returns-clause-recovering : goal.returns-clause-recovering
unfolding digits
returns-clause-recovering c = refl

pub returns-clause-paused : goal.returns-clause-paused
unfolding digits
returns-clause-paused c = refl

pub returns-clause-odd : goal.returns-clause-odd
unfolding digits
returns-clause-odd c = refl

pub returns-clause-empty : goal.returns-clause-empty
unfolding digits
returns-clause-empty c = refl
