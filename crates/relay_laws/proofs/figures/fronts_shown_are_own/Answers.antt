use Rattle.std.proofs.Common.{refl}
use Rattle.relay_laws.proofs.BufferFigures.{first_of_none, newest_cycle, newest_front}
use Rattle.relay_laws.proofs.figures.fronts_shown_are_own.Goals as goal

pub returns-clause-front : goal.returns-clause-front
returns-clause-front c = λ w σ buffer. refl

pub returns-clause-cycle : goal.returns-clause-cycle
returns-clause-cycle c = newest_cycle

pub returns-clause-behind : goal.returns-clause-behind
returns-clause-behind c = newest_front

pub returns-clause-first : goal.returns-clause-first
returns-clause-first c = first_of_none
