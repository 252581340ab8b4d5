-- Who may connect, in an example (docs/FORMATS.md, Configuration).
use Rattle.std.specs.Prelude.{ℕ, ◌+◌, Bool, List, [], ◌∷◌, codes, None}
use Rattle.relay_conf.specs.declared.reach.Allow.{Allow}
use Rattle.relay_conf.specs.declared.reach.Range.{Range}
use Rattle.relay_conf.specs.declared.relay.Peer.{Peer}
use Rattle.relay_conf.specs.Reach.{may_reach}
use Rattle.relay_conf.specs.Relay.{RelaySettings, each_address}
use Rattle.relay_conf.specs.RelayLines.{mapped}

-- three peers, lines of two of them, one before its peer, and two of the first (docs/FORMATS.md,
-- Configuration)
abbrev pub reach_lines : List (List ℕ)
reach_lines =
    codes "own a" ∷ codes "allow p 192.0.2.5/31" ∷ codes "peer p b 0" ∷ codes "peer q c 0"
    ∷ codes "peer r d 0" ∷ codes "allow q 198.51.100.7" ∷ codes "allow p 203.0.113.9/32 10.1.2.3/8"
    ∷ []

-- the range of this IPv4 address and of so many of its 32 bits: behind the 96 bits in front of it
abbrev pub ipv4_range : (a b c d : ℕ) → (bits : ℕ) → Range
ipv4_range a b c d bits = record { address = mapped (a ∷ b ∷ c ∷ d ∷ []); bits = 96 + bits }

-- a peer of this name and this identity, not served
abbrev pub unserved : (name identity : List ℕ) → Peer
unserved name identity = record { name = name; identity = identity; port = 0; connections = 1 }

-- the settings of the relay `a` with these addresses to listen on, peers and ranges, and without
-- any other line
abbrev pub settings_with : (binds : List (List ℕ)) → List Peer → List Allow → RelaySettings
settings_with binds peers allows =
    record {
      own = codes "a";
      max_article = 1000000;
      cutoff = 864000;
      remember = None;
      patience = 3600;
      sync = None;
      offers = None;
      log = None;
      binds = binds;
      peers = peers;
      feeds = [];
      allows = allows;
    }

-- what they say: the ranges in their order, each with the number of its peer
abbrev pub reach_settings : RelaySettings
reach_settings =
    settings_with (each_address ∷ [])
    (unserved (codes "p") (codes "b") ∷ unserved (codes "q") (codes "c")
    ∷ unserved (codes "r") (codes "d") ∷ [])
    (record { peer = 0; range = ipv4_range 192 0 2 5 31 }
    ∷ record { peer = 1; range = ipv4_range 198 51 100 7 32 }
    ∷ record { peer = 0; range = ipv4_range 203 0 113 9 32 }
    ∷ record { peer = 0; range = ipv4_range 10 1 2 3 8 } ∷ [])

-- the IPv4 address of these octets may connect to the peer of this number
abbrev pub reaches : (peer : ℕ) → (a b c d : ℕ) → Bool
reaches peer a b c d = may_reach reach_settings.allows peer (mapped (a ∷ b ∷ c ∷ d ∷ []))
