use Rattle.relay_laws.proofs.KnownTokens.{fetches_known}
use Rattle.relay_laws.proofs.claims.fetches_are_known.Goals as goal

pub returns : goal.returns
returns c = fetches_known
