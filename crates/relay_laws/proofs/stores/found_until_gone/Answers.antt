use Rattle.relay_laws.proofs.FoundLive.{found_until_gone}
use Rattle.relay_laws.proofs.stores.found_until_gone.Goals as goal

pub returns : goal.returns
returns c = found_until_gone
