use Rattle.relay_conf.proofs.Addresses.{bracketed_text_read, ipv4_text_read, ipv6_text_read}
use Rattle.relay_conf.proofs.laws.texts_of_addresses.Goals as goal

pub returns-clause-ipv4 : goal.returns-clause-ipv4
returns-clause-ipv4 c = ipv4_text_read

pub returns-clause-ipv6 : goal.returns-clause-ipv6
returns-clause-ipv6 c = ipv6_text_read

pub returns-clause-bracketed : goal.returns-clause-bracketed
returns-clause-bracketed c = bracketed_text_read
