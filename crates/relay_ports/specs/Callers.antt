-- Who may connect to the ports of the peers (docs/FORMATS.md, relay.conf).
use Rattle.std.specs.Prelude.{◌≡◌, ℕ, ◌<◌, List, get_or, length}
use Rattle.live_wire.specs.Callers.{may_call}
use Rattle.live_wire.specs.Ports.{callers_of}
use Rattle.live_wire.specs.declared.callers.Callers.{Callers}
use Rattle.live_wire.specs.declared.port.Port.{Port}
use Rattle.relay_conf.specs.Reach.{may_reach}
use Rattle.relay_conf.specs.declared.reach.Allow.{Allow}
use Rattle.relay_conf.specs.declared.settings.Relay.{Relay}
use Rattle.relay_live.specs.declared.running.PeerSource.{PeerSource}

-- just those addresses may connect that may reach the peer of this number (docs/FORMATS.md,
-- relay.conf)
abbrev pub LetsIn : List Allow → (peer : ℕ) → Callers → Type 0
LetsIn allows peer callers =
    (address : List ℕ) → may_call callers address ≡ may_reach allows peer address

-- the port of a peer source lets in just who may reach its peer (docs/FORMATS.md, relay.conf)
abbrev pub HasCallers : List Allow → PeerSource Port → Type 0
HasCallers allows source = LetsIn allows source.peer (callers_of source.connections)

-- these are the callers of all peers, in their order
pub record AreCallers (relay : Relay) (callers : List Callers) : Type 0 where
  pub count : length callers ≡ length relay.peers.items
  pub each : (peer : ℕ) (d : Callers) → peer < length callers
      → LetsIn relay.allows.items peer (get_or callers peer d)
