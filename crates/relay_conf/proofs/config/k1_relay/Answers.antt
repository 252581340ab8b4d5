use Rattle.relay_conf.proofs.BuiltIn.{relay_is_read}
use Rattle.relay_conf.proofs.config.k1_relay.Goals as goal

pub returns-clause-gives : goal.returns-clause-gives
returns-clause-gives c = (relay_is_read c.read_relay.result c.read_relay.ensures).gives

pub returns-clause-memory : goal.returns-clause-memory
returns-clause-memory c = (relay_is_read c.read_relay.result c.read_relay.ensures).memory
