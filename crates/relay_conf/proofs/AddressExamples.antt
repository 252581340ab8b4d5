-- Addresses to listen on, and who may connect, in examples.
use Rattle.std.proofs.Common.{[], ◌∷◌, Ok, refl}
use Rattle.std.specs.Prelude.{codes}
use Rattle.std.specs.Net.Addr.{octets_of}
use Rattle.std.specs.Net.Reader.{read_ipv4, read_ipv6, read_number, read_octet, read_segment}
use Rattle.std.specs.Net.Reader.{read_segments}
use Rattle.relay_conf.specs.AddressExamples.{bind_lines, bind_settings, mixed_lines}
use Rattle.relay_conf.specs.AddressExamples.{mixed_settings}
use Rattle.relay_conf.specs.ReachExamples.{ipv4_range}
use Rattle.relay_conf.specs.RelayLines as relay
use Rattle.relay_conf.specs.RelayLines.{mapped}
use Rattle.relay_conf.specs.RelayViews.{HasSettings}

-- The lines of ranges of both kinds say their settings.
pub mixed_says : HasSettings mixed_lines mixed_settings
unfolding read_ipv6 read_segments read_segment read_ipv4 read_octet read_number
mixed_says = record {
  said = Ok (relay.Own (codes "a")) ∷ Ok (relay.PeerLine (codes "p") (codes "b") 0)
      ∷ Ok (relay.PeerLine (codes "q") (codes "c") 0)
      ∷ Ok (relay.PeerLine (codes "r") (codes "d") 0)
      ∷ Ok (relay.PeerLine (codes "s") (codes "e") 0)
      ∷ Ok (relay.AllowLine (codes "p") (record {
        address = octets_of (0x2001 ∷ 0xdb8 ∷ 0 ∷ 0 ∷ 0 ∷ 0 ∷ 0 ∷ 0 ∷ []);
        bits = 32;
      } ∷ []))
      ∷ Ok (relay.AllowLine (codes "q") (record {
        address = octets_of (0 ∷ 0 ∷ 0 ∷ 0 ∷ 0 ∷ 0 ∷ 0 ∷ 0 ∷ []);
        bits = 0;
      } ∷ []))
      ∷ Ok (relay.AllowLine (codes "r") (ipv4_range 10 0 0 0 8 ∷ []))
      ∷ Ok (relay.AllowLine (codes "s") (ipv4_range 0 0 0 0 0 ∷ [])) ∷ [];
  says = (refl, (refl, (refl, (refl, (refl, (refl, (refl, (refl, (refl, tt)))))))));
  gives = refl;
}

-- Those of addresses to listen on do so too.
pub binds_say : HasSettings bind_lines bind_settings
unfolding read_ipv6 read_segments read_segment read_ipv4 read_octet read_number
binds_say = record {
  said = Ok (relay.Bind (octets_of (0x2001 ∷ 0xdb8 ∷ 0 ∷ 0 ∷ 0 ∷ 0 ∷ 0 ∷ 1 ∷ [])))
      ∷ Ok (relay.Own (codes "a")) ∷ Ok (relay.Bind (mapped (10 ∷ 0 ∷ 0 ∷ 1 ∷ [])))
      ∷ Ok (relay.Bind (octets_of (0 ∷ 0 ∷ 0 ∷ 0 ∷ 0 ∷ 0 ∷ 0 ∷ 0 ∷ []))) ∷ [];
  says = (refl, (refl, (refl, (refl, tt))));
  gives = refl;
}
