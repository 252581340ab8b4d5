use Rattle.relay_laws.proofs.Remembered.{ends_by_expire}
use Rattle.relay_laws.proofs.forgetting.remembered_until_expired.Goals as goal

pub returns : goal.returns
returns c = ends_by_expire
