use Rattle.relay_conf.proofs.Reaches.{no_bit, all_bits}
use Rattle.relay_conf.proofs.laws.ranges_of_no_bit_and_of_all.Goals as goal

pub returns-clause-all : goal.returns-clause-all
returns-clause-all c = no_bit

pub returns-clause-one : goal.returns-clause-one
returns-clause-one c = all_bits
