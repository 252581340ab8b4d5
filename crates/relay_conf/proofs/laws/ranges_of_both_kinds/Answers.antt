use Rattle.std.proofs.Common.{refl}
use Rattle.std.specs.Net.Reader.{read_ipv4, read_ipv6, read_number, read_octet, read_segment}
use Rattle.std.specs.Net.Reader.{read_segments}
use Rattle.relay_conf.proofs.AddressExamples.{mixed_says}
use Rattle.relay_conf.proofs.laws.ranges_of_both_kinds.Goals as goal

pub returns-clause-lines : goal.returns-clause-lines
returns-clause-lines c = mixed_says

pub returns-clause-same : goal.returns-clause-same
unfolding read_ipv6 read_segments read_segment read_ipv4 read_octet read_number
returns-clause-same c = refl
