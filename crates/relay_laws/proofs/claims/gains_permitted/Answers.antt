use Rattle.relay_laws.proofs.Gained.{gains_permitted}
use Rattle.relay_laws.proofs.claims.gains_permitted.Goals as goal

pub returns : goal.returns
returns c = gains_permitted
