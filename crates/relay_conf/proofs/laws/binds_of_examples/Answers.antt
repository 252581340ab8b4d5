use Rattle.std.proofs.Common.{[], ◌∷◌, Ok, inl, refl}
use Rattle.std.specs.Prelude.{codes}
use Rattle.std.specs.Net.Addr.{octets_of}
use Rattle.std.specs.Net.Reader.{read_ipv4, read_ipv6, read_number, read_octet, read_segment}
use Rattle.std.specs.Net.Reader.{read_segments}
use Rattle.relay_conf.specs.RelayLines as relay
use Rattle.relay_conf.specs.RelayLines.{mapped}
use Rattle.relay_conf.proofs.AddressExamples.{binds_say}
use Rattle.relay_conf.proofs.laws.binds_of_examples.Goals as goal

pub returns-clause-several : goal.returns-clause-several
returns-clause-several c = binds_say

pub returns-clause-again : goal.returns-clause-again
unfolding read_ipv6 read_segments read_segment read_ipv4 read_octet read_number
returns-clause-again c = inl (record {
  read = codes "own a" ∷ codes "bind ::1" ∷ codes "bind [0:0::1]" ∷ [];
  rest = [];
  said = Ok (relay.Own (codes "a"))
      ∷ Ok (relay.Bind (octets_of (0 ∷ 0 ∷ 0 ∷ 0 ∷ 0 ∷ 0 ∷ 0 ∷ 1 ∷ [])))
      ∷ Ok (relay.Bind (octets_of (0 ∷ 0 ∷ 0 ∷ 0 ∷ 0 ∷ 0 ∷ 0 ∷ 1 ∷ []))) ∷ [];
  split = refl;
  says = (refl, (refl, (refl, tt)));
  first = refl;
})

pub returns-clause-mapped : goal.returns-clause-mapped
unfolding read_ipv6 read_segments read_segment read_ipv4 read_octet read_number
returns-clause-mapped c = inl (record {
  read = codes "bind ::ffff:10.0.0.1" ∷ codes "bind ::1" ∷ codes "bind 10.0.0.1" ∷ [];
  rest = [];
  said = Ok (relay.Bind (mapped (10 ∷ 0 ∷ 0 ∷ 1 ∷ [])))
      ∷ Ok (relay.Bind (octets_of (0 ∷ 0 ∷ 0 ∷ 0 ∷ 0 ∷ 0 ∷ 0 ∷ 1 ∷ [])))
      ∷ Ok (relay.Bind (mapped (10 ∷ 0 ∷ 0 ∷ 1 ∷ []))) ∷ [];
  split = refl;
  says = (refl, (refl, (refl, tt)));
  first = refl;
})
