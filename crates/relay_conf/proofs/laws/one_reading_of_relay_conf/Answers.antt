use Rattle.relay_conf.proofs.OneRelay.{relay_one}
use Rattle.relay_conf.proofs.laws.one_reading_of_relay_conf.Goals as goal

pub returns-clause-settings : goal.returns-clause-settings
returns-clause-settings c = relay_one.settings

pub returns-clause-either : goal.returns-clause-either
returns-clause-either c = relay_one.either

pub returns-clause-fault : goal.returns-clause-fault
returns-clause-fault c = relay_one.fault
