-- Ranges and addresses of IPv6 beside those of IPv4, in examples (docs/FORMATS.md, Configuration).
use Rattle.std.specs.Prelude.{ℕ, Bool, List, [], ◌∷◌, codes, Option, option_map}
use Rattle.std.specs.Net.Addr.{octets_of}
use Rattle.relay_conf.specs.Reach.{may_reach}
use Rattle.relay_conf.specs.ReachExamples.{ipv4_range, settings_with, unserved}
use Rattle.relay_conf.specs.Relay.{RelaySettings, each_address}
use Rattle.relay_conf.specs.RelayLines.{address_of, mapped}

-- four peers: one is reached from a range of IPv6, one from each address, one from a range of IPv4
-- that is written as one of IPv6, and one from all of IPv4 (docs/FORMATS.md, Configuration)
abbrev pub mixed_lines : List (List ℕ)
mixed_lines =
    codes "own a" ∷ codes "peer p b 0" ∷ codes "peer q c 0" ∷ codes "peer r d 0"
    ∷ codes "peer s e 0" ∷ codes "allow p 2001:db8::/32" ∷ codes "allow q ::/0"
    ∷ codes "allow r ::ffff:10.0.0.0/104" ∷ codes "allow s 0.0.0.0/0" ∷ []

-- what they say
abbrev pub mixed_settings : RelaySettings
mixed_settings =
    settings_with (each_address ∷ [])
    (unserved (codes "p") (codes "b") ∷ unserved (codes "q") (codes "c")
    ∷ unserved (codes "r") (codes "d") ∷ unserved (codes "s") (codes "e") ∷ [])
    (record {
      peer = 0;
      range = record {
        address = octets_of (0x2001 ∷ 0xdb8 ∷ 0 ∷ 0 ∷ 0 ∷ 0 ∷ 0 ∷ 0 ∷ []);
        bits = 32;
      };
    }
    ∷ record {
      peer = 1;
      range = record { address = octets_of (0 ∷ 0 ∷ 0 ∷ 0 ∷ 0 ∷ 0 ∷ 0 ∷ 0 ∷ []); bits = 0 };
    }
    ∷ record { peer = 2; range = ipv4_range 10 0 0 0 8 }
    ∷ record { peer = 3; range = ipv4_range 0 0 0 0 0 } ∷ [])

-- whether the address that this text is may connect to the peer of this number, where it is one
abbrev pub mixed_reaches : (peer : ℕ) → (text : List ℕ) → Option Bool
mixed_reaches peer text = option_map (may_reach mixed_settings.allows peer) (address_of text)

-- three lines of addresses to listen on, of which two are IPv6 (docs/FORMATS.md, Configuration)
abbrev pub bind_lines : List (List ℕ)
bind_lines =
    codes "bind [2001:db8::1]" ∷ codes "own a" ∷ codes "bind 10.0.0.1" ∷ codes "bind ::" ∷ []

-- what they say: the addresses in the order of their lines
abbrev pub bind_settings : RelaySettings
bind_settings =
    settings_with (octets_of (0x2001 ∷ 0xdb8 ∷ 0 ∷ 0 ∷ 0 ∷ 0 ∷ 0 ∷ 1 ∷ [])
    ∷ mapped (10 ∷ 0 ∷ 0 ∷ 1 ∷ []) ∷ octets_of (0 ∷ 0 ∷ 0 ∷ 0 ∷ 0 ∷ 0 ∷ 0 ∷ 0 ∷ []) ∷ []) [] []
