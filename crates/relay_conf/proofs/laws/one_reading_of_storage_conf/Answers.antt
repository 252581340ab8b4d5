use Rattle.relay_conf.proofs.OneStorage.{storage_one}
use Rattle.relay_conf.proofs.laws.one_reading_of_storage_conf.Goals as goal

pub returns-clause-entries : goal.returns-clause-entries
returns-clause-entries c = λ groups. (storage_one groups).settings

pub returns-clause-either : goal.returns-clause-either
returns-clause-either c = λ groups. (storage_one groups).either

pub returns-clause-fault : goal.returns-clause-fault
returns-clause-fault c = λ groups. (storage_one groups).fault
