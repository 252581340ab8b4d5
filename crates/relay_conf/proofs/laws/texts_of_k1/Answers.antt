use Rattle.relay_conf.proofs.BuiltIn.{storage_has_entries, relay_has_settings}
use Rattle.relay_conf.proofs.laws.texts_of_k1.Goals as goal

pub returns-clause-storage : goal.returns-clause-storage
returns-clause-storage c = storage_has_entries

pub returns-clause-relay : goal.returns-clause-relay
returns-clause-relay c = relay_has_settings
