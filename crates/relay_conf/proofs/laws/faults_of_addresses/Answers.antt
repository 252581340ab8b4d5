use Rattle.std.proofs.Common.{refl}
use Rattle.std.specs.Net.Reader.{read_ipv4, read_ipv6, read_number, read_octet, read_segment}
use Rattle.std.specs.Net.Reader.{read_segments}
use Rattle.relay_conf.proofs.laws.faults_of_addresses.Goals as goal

pub returns-clause-bits : goal.returns-clause-bits
unfolding read_ipv6 read_segments read_segment read_ipv4 read_octet read_number
returns-clause-bits c = refl

pub returns-clause-bits_of_ipv4 : goal.returns-clause-bits_of_ipv4
unfolding read_ipv6 read_segments read_segment read_ipv4 read_octet read_number
returns-clause-bits_of_ipv4 c = refl

pub returns-clause-elided_twice : goal.returns-clause-elided_twice
unfolding read_ipv6 read_segments read_segment read_ipv4 read_octet read_number
returns-clause-elided_twice c = refl

pub returns-clause-bracketed : goal.returns-clause-bracketed
unfolding read_ipv6 read_segments read_segment read_ipv4 read_octet read_number
returns-clause-bracketed c = refl

pub returns-clause-one_bracket : goal.returns-clause-one_bracket
unfolding read_ipv6 read_segments read_segment read_ipv4 read_octet read_number
returns-clause-one_bracket c = (refl, refl)
