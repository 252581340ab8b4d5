use Rattle.relay_conf.proofs.OneRelay.{relay_one}
use Rattle.relay_conf.proofs.laws.each_relay_conf_has_a_reading.Goals as goal

pub returns : goal.returns
returns c = relay_one.some
