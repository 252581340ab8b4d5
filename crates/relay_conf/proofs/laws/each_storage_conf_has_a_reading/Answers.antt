use Rattle.relay_conf.proofs.OneStorage.{storage_one}
use Rattle.relay_conf.proofs.laws.each_storage_conf_has_a_reading.Goals as goal

pub returns : goal.returns
returns c = λ groups. (storage_one groups).some
