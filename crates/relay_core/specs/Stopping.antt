-- A clean stop of the relay: what its history tells, and what stores and text hold
-- (docs/PROTOCOL.md, Clean stop and start).
use Rattle.std.specs.Prelude.{◌≡◌, ◌+◌, ◌-◌, ◌^◌, ℕ, true, false, List, map, nat_lt, ◌<◌}
use Rattle.std.specs.Prelude.{if◌then◌else◌, length, All}
use Rattle.article_verdict.specs.Config.{terms_of}
use Rattle.cyc_block.specs.declared.store.BlockStore.{Ghosts}
use Rattle.feed_queue.specs.Feeds.{KeepsFeeds}
use Rattle.feed_queue.specs.Left.{AreLeft}
use Rattle.feed_queue.specs.declared.desk.FeedDesk.{FeedDesk}
use Rattle.id_history.specs.History as texts
use Rattle.id_history.specs.History.{Fits, history_octets}
use Rattle.id_history.specs.Views.{feed_view}
use Rattle.id_history.specs.declared.kept.KeptFeed.{KeptFeed}
use Rattle.id_history.specs.Lasting.{AreLasting}
use Rattle.relay_facts.specs.Started.{newest_kept}
use Rattle.relay_model.specs.Claims.{is_storing}
use Rattle.relay_model.specs.Invariants.{IsWell}
use Rattle.relay_model.specs.State.{State, Feed}
use Rattle.relay_model.specs.Terms.{Terms}
use Rattle.relay_model.specs.World.{World}
use Rattle.relay_core.specs.Agreement.{Agrees, ring_sizes, AgreesAs, AgreesLeft}
use Rattle.block_shelf.specs.Stopping.{ArePositions, HoldsTexts, IsShutPartly, HoldsLeft}
use Rattle.block_shelf.specs.Leaving.{Trust}
use Rattle.relay_core.specs.declared.stopped.Unstopped.{Unstopped}
use Rattle.relay_core.specs.declared.stopped.Unstopped.TheVariants as unstoppeds
use Rattle.relay_core.specs.declared.system.System.{System}

-- the number of the next stop: after the greatest that there is it is 1 again
abbrev pub next_stop : ℕ → ℕ
next_stop stop = if nat_lt stop (2 ^ 64 - 1) then stop + 1 else 1

-- the number of the relay's last stop
abbrev pub stop_of : {S : Type 0} {g : Ghosts S} → System S g → ℕ
stop_of system = system.stop

-- the history of a relay in this state at this stop
pub record IsHistory (w : Terms) (stop : ℕ) (σ : State) (kept : texts.Kept) : Type 0 where
  pub stop_is : kept.stop ≡ stop
  pub newest : kept.newest ≡ newest_kept σ.newest
  pub positions : ArePositions w.groups σ.begun kept.positions
  pub feeds : AreLeft kept.feeds (ring_sizes w) σ.feed
  pub ids : AreLasting kept.ids σ.claim

-- the text is that of a history of this state at this stop
pub record Tells (w : Terms) (stop : ℕ) (σ : State) (text : List ℕ) : Type 0 where
  pub kept : texts.Kept
  pub fits : Fits kept
  pub written : text ≡ history_octets kept
  pub history : IsHistory w stop σ kept

-- The stores and the text are those of a relay that agreed with this world and was shut at this
-- stop, by these terms. The lists that no file has (what was begun, kept, gained and accepted) are
-- the world's: stores and text have to fit them, and say no more.
pub record IsShut {S : Type 0} (g : Ghosts S) (w : Terms) (stop : ℕ) (stores : List S)
    (text : List ℕ) (x : World)
    : Type 0 where
  pub tells : Tells w stop x.state text
  pub buffer_set : HoldsTexts g stores stop w x.state.begun x.state.kept x.work.failures
  pub idle : (id : List ℕ) → is_storing (x.state.claim id) ≡ false
  pub well : IsWell w x

-- a crash may leave the stores, as what the relay was shut to is
abbrev pub IsShutLeft : {S : Type 0} → Ghosts S → Terms → (stop : ℕ) → (stores : List S) → World
    → Type 0
IsShutLeft g w stop stores x =
    HoldsLeft g stores stop w x.state.begun x.state.kept x.work.failures

-- the text is that of the history of each world that the relay agrees with
abbrev pub TellsHistory : {S : Type 0} {g : Ghosts S} → System S g → (stop : ℕ) → List ℕ → Type 0
TellsHistory system stop text =
    (trusted : Trust) (x : World) → AgreesAs trusted system x
    → Tells (terms_of system.config) stop x.state text

-- an id is being stored in each world that the relay agrees with
abbrev pub IsStoring : {S : Type 0} {g : Ghosts S} → System S g → Type 0
IsStoring system =
    (trusted : Trust) (x : World) → AgreesAs trusted system x
    → (id : List ℕ) × (is_storing (x.state.claim id) ≡ true)

-- none is
abbrev pub IsAtRest : {S : Type 0} {g : Ghosts S} → System S g → Type 0
IsAtRest system =
    (trusted : Trust) (x : World) → AgreesAs trusted system x → (id : List ℕ)
    → is_storing (x.state.claim id) ≡ false

-- What closing gives holds each world that the relay agreed with, at the next stop; over stores
-- that aren't trusted the text alone does.
pub record Shuts {S : Type 0} {g : Ghosts S} (old : System S g) (stores : List S)
    (text : List ℕ)
    : Type 0 where
  pub rest : IsAtRest old
  pub told : TellsHistory old (next_stop (stop_of old)) text
  pub holds : (x : World) → Agrees true old x
      → IsShut g (terms_of old.config) (next_stop (stop_of old)) stores text x
  -- where a crash may have left its stores, it may leave those
  pub leaves : (x : World) → AgreesLeft old x
      → IsShutLeft g (terms_of old.config) (next_stop (stop_of old)) stores x

-- Why the relay isn't closed. Where an id is being stored, and there alone, it isn't idle and comes
-- back as it was; so it does where memory was refused. Else the device of a buffer has failed.
abbrev pub ComesBack : {S : Type 0} {g : Ghosts S} → System S g → Unstopped S g → Type 0
ComesBack old (unstoppeds.NotIdle back) = (back ≡ old) × IsStoring old
ComesBack old (unstoppeds.Memory back) = (back ≡ old) × IsAtRest old
ComesBack old (unstoppeds.Device number stores) =
    IsAtRest old × IsShutPartly old.buffer_set number stores.items

-- this is left of the feeds that a desk of so many feeds keeps
abbrev pub AreKeptFeeds : FeedDesk → (count : ℕ) → List KeptFeed → Type 0
AreKeptFeeds desk count kept =
    (sizes : List ℕ) (feed : ℕ → Feed) → KeepsFeeds desk sizes feed → length sizes ≡ count
    → AreLeft (map feed_view kept) sizes feed

-- the text of a history has room for so many feeds, and for what waits in each
abbrev pub HaveRoom : List KeptFeed → Type 0
HaveRoom kept =
    (length kept < 2 ^ 32)
    × All (λ (feed : KeptFeed). length feed.waiting.items < 2 ^ 32) kept

-- this is left of the feeds, and a history has room for it
pub record TellsFeeds (desk : FeedDesk) (count : ℕ) (kept : List KeptFeed) : Type 0 where
  pub left : AreKeptFeeds desk count kept
  pub room : HaveRoom kept
