-- What is kept in memory beside the buffer set, as a start makes it of a history (docs/PROTOCOL.md,
-- Clean stop and start).
use Rattle.std.specs.Prelude.{◌≡◌, ℕ, List, [], map, length}
use Rattle.feed_queue.specs.Feeds.{KeepsFeeds, ring_size}
use Rattle.feed_queue.specs.Left.{AreLeft}
use Rattle.id_history.specs.History as texts
use Rattle.id_history.specs.History.{Fits, Holds, history_octets}
use Rattle.id_history.specs.Lasting.{AreLasting, lasting}
use Rattle.id_history.specs.Shards.{KeepsAll}
use Rattle.relay_conf.specs.Settings.{places_of_groups}
use Rattle.relay_conf.specs.declared.settings.Config.{Config}
use Rattle.relay_model.specs.Claims.{Claim}
use Rattle.relay_model.specs.State.{Feed}
use Rattle.relay_model.specs.World as world
use Rattle.news_terms.specs.Places.{Group}
use Rattle.relay_core.specs.Beginning.{AreIdle}
use Rattle.relay_core.specs.Expiring.{expirer_view}
use Rattle.relay_core.specs.declared.desks.Desks.{Desks}

-- how many buffers a group has
abbrev pub members_of : Group → ℕ
members_of group = length group.buffers

-- what a history has to fit: how many buffers there are, of each group how many it has, and of each
-- feed how many tokens its ring holds
abbrev pub setting_of : Config → texts.Setting
setting_of config =
    record {
      buffers = length config.buffers.buffers.items;
      groups = map members_of (places_of_groups config.buffers);
      rings = map ring_size config.relay.feeds.items;
    }

-- the text is that of this history, which a relay of this configuration can have had at its stop
pub record Reads (config : Config) (text : List ℕ) (kept : texts.Kept) : Type 0 where
  pub fits : Fits kept
  pub holds : Holds (setting_of config) kept
  pub text_is : text ≡ history_octets kept

-- They are made of this history: the ids have what was left of their claims, the rings what was
-- left of their feeds, and there are so many group writers without jobs. Nothing was read of the
-- fronts.
pub record AreOf (config : Config) (kept : texts.Kept) (count : ℕ) (desks : Desks) : Type 0 where
  pub claims : (claim : List ℕ → Claim) → AreLasting kept.ids claim
      → KeepsAll desks.shards (λ id. lasting (claim id))
  pub desk : (feed : ℕ → Feed)
      → AreLeft kept.feeds (map ring_size config.relay.feeds.items) feed
      → KeepsFeeds desks.desk (map ring_size config.relay.feeds.items) feed
  pub group_writers : AreIdle count desks.group_writers.items
  pub expirer : expirer_view desks.expirer ≡ world.Reading []
