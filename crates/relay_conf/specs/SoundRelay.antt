-- What holds of the settings of relay.conf, whatever it says (docs/FORMATS.md, Configuration).
use Rattle.std.specs.Prelude.{◌≡◌, ℕ, ◌≤◌, ◌<◌, List, length, All, slice_get, Some, IsTrue}
use Rattle.std.specs.Option.{ForSome}
use Rattle.news_terms.specs.Path.{is_agent}
use Rattle.relay_conf.specs.declared.relay.Feed.{Feed}
use Rattle.relay_conf.specs.Relay.{RelaySettings}

-- identities, peers, feeds and limits are as they may be configured
pub record IsSoundRelay (settings : RelaySettings) : Type 0 where
  -- the own identity and those of the peers may stand in a Path
  pub own : IsTrue (is_agent settings.own)
  pub identities : All (λ peer. IsTrue (is_agent peer.identity)) settings.peers
  -- there are at most 1,024 peers
  pub few_peers : length settings.peers ≤ 1024
  -- 1 to 64 connections of a peer are served at once
  pub connections : All (λ peer. (1 ≤ peer.connections) × (peer.connections ≤ 64)) settings.peers
  -- a ring holds 1 to 65,536 tokens, and is of one of the peers, which has no other
  pub rings : All (λ feed. (1 ≤ feed.ring) × (feed.ring ≤ 65536)) settings.feeds
  pub of_peers : All (λ feed. feed.peer < length settings.peers) settings.feeds
  pub own_feed : (i j : ℕ) (a b : Feed) → slice_get settings.feeds i ≡ Some a
      → slice_get settings.feeds j ≡ Some b → a.peer ≡ b.peer → i ≡ j
  -- there is an address to listen on, and none stands twice
  pub some_binds : 1 ≤ length settings.binds
  pub apart_binds : (i j : ℕ) (address : List ℕ) → slice_get settings.binds i ≡ Some address
      → slice_get settings.binds j ≡ Some address → i ≡ j
  -- a range of addresses counts 0 to 128 bits, and is of one of the peers
  pub bits : All (λ allow. allow.range.bits ≤ 128) settings.allows
  pub allows_of_peers : All (λ allow. allow.peer < length settings.peers) settings.allows
  -- the limits are in their ranges
  pub some_octets : 1 ≤ settings.max_article
  pub most_octets : settings.max_article ≤ 16777216
  pub cutoff : settings.cutoff ≤ 4000000000
  pub remember : ForSome settings.remember (λ seconds. seconds ≤ 4000000000)
  pub some_patience : 1 ≤ settings.patience
  pub most_patience : settings.patience ≤ 86400
  pub sync : ForSome settings.sync (λ seconds. (1 ≤ seconds) × (seconds ≤ 86400))
  pub offers : ForSome settings.offers (λ seconds. (1 ≤ seconds) × (seconds ≤ 86400))
