use Rattle.relay_conf.proofs.SkippedStorage.{storage_without}
use Rattle.relay_conf.proofs.laws.comments_change_nothing_in_storage_conf.Goals as goal

pub returns : goal.returns
returns c = storage_without
