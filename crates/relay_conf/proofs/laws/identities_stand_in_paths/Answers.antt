use Rattle.relay_conf.proofs.PathIdentities.{first_identity}
use Rattle.relay_conf.proofs.laws.identities_stand_in_paths.Goals as goal

pub returns : goal.returns
returns c = first_identity
