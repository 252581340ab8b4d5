use Rattle.std.proofs.Common.{refl}
use Rattle.std.specs.Net.Reader.{read_ipv4, read_ipv6, read_number, read_octet, read_segment}
use Rattle.std.specs.Net.Reader.{read_segments}
use Rattle.relay_conf.proofs.laws.faults_of_allow.Goals as goal

pub returns-clause-bits : goal.returns-clause-bits
unfolding read_ipv4 read_octet read_number
returns-clause-bits c = refl

pub returns-clause-no_bits : goal.returns-clause-no_bits
unfolding read_ipv4 read_octet read_number
returns-clause-no_bits c = refl

pub returns-clause-address : goal.returns-clause-address
unfolding read_ipv4 read_octet read_number read_ipv6 read_segments read_segment
returns-clause-address c = refl

pub returns-clause-first : goal.returns-clause-first
unfolding read_ipv4 read_octet read_number read_ipv6 read_segments read_segment
returns-clause-first c = (refl, refl)
