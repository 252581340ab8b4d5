use Rattle.std.proofs.Common.{refl}
use Rattle.std.specs.Net.Reader.{read_ipv4, read_ipv6, read_number, read_octet, read_segment}
use Rattle.std.specs.Net.Reader.{read_segments}
use Rattle.relay_conf.proofs.laws.who_connects_of_both_kinds.Goals as goal

pub returns-clause-inside : goal.returns-clause-inside
unfolding read_ipv6 read_segments read_segment read_ipv4 read_octet read_number
returns-clause-inside c = (refl, refl)

pub returns-clause-outside : goal.returns-clause-outside
unfolding read_ipv6 read_segments read_segment read_ipv4 read_octet read_number
returns-clause-outside c = (refl, refl)

pub returns-clause-no_ipv4 : goal.returns-clause-no_ipv4
unfolding read_ipv6 read_segments read_segment read_ipv4 read_octet read_number
returns-clause-no_ipv4 c = refl

pub returns-clause-each : goal.returns-clause-each
unfolding read_ipv6 read_segments read_segment read_ipv4 read_octet read_number
returns-clause-each c = (refl, refl)

pub returns-clause-mapped : goal.returns-clause-mapped
unfolding read_ipv6 read_segments read_segment read_ipv4 read_octet read_number
returns-clause-mapped c = (refl, refl, refl)

pub returns-clause-no_ipv6 : goal.returns-clause-no_ipv6
unfolding read_ipv6 read_segments read_segment read_ipv4 read_octet read_number
returns-clause-no_ipv6 c = refl

pub returns-clause-all_ipv4 : goal.returns-clause-all_ipv4
unfolding read_ipv6 read_segments read_segment read_ipv4 read_octet read_number
returns-clause-all_ipv4 c = (refl, refl)
