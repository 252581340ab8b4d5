use Rattle.buffer_ages.proofs.Sinces.{is_since, so_told}
use Rattle.buffer_ages.proofs.laws.since_is_told.Goals as goal

pub returns-clause-is : goal.returns-clause-is
returns-clause-is c marks front blocks moment is = is_since marks front blocks moment is

pub returns-clause-only : goal.returns-clause-only
returns-clause-only c marks front blocks moment is = so_told marks front blocks moment is
