use Rattle.std.proofs.Common.{refl}
use Rattle.std.specs.Fmt.{digits}
use Rattle.relay_names.proofs.laws.worked_texts.Goals as goal

pub returns-clause-third : goal.returns-clause-third
unfolding digits
returns-clause-third c = refl

pub returns-clause-first : goal.returns-clause-first
unfolding digits
returns-clause-first c = refl

pub returns-clause-empty : goal.returns-clause-empty
unfolding digits
returns-clause-empty c = refl

pub returns-clause-odd : goal.returns-clause-odd
unfolding digits
returns-clause-odd c = refl
