use Rattle.relay_laws.proofs.StoredOnce.{stored_once}
use Rattle.relay_laws.proofs.claims.stored_once.Goals as goal

pub returns : goal.returns
returns c = stored_once
