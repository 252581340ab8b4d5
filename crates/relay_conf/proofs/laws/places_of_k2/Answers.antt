use Rattle.std.proofs.Common.{refl}
use Rattle.relay_conf.proofs.laws.places_of_k2.Goals as goal

pub returns-clause-cycbuff : goal.returns-clause-cycbuff
returns-clause-cycbuff c = refl
