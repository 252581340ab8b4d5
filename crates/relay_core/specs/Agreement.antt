-- When the relay's code agrees with a world of the definitions: each part keeps its piece of it.
use Rattle.std.specs.Prelude.{◌≡◌, ◌≢◌, ℕ, ◌*◌, ◌<◌, Bool, true, List, [], length, map, take}
use Rattle.std.specs.Prelude.{option_map, slice_get, Option, None, Some}
use Rattle.article_verdict.specs.Config.{terms_of}
use Rattle.block_shelf.specs.Calls.{token_of}
use Rattle.block_shelf.specs.Keeping.{KeepsTexts}
use Rattle.block_shelf.specs.Leaving.{Trust, honestly, plain}
use Rattle.buffer_group.specs.Jobs.{job_view}
use Rattle.buffer_group.specs.Writers.{writer_view}
use Rattle.cyc_block.specs.declared.store.BlockStore.{Ghosts}
use Rattle.feed_queue.specs.Feeds.{KeepsFeeds}
use Rattle.id_history.specs.Shards.{KeepsAll}
use Rattle.news_terms.specs.BlockImage.{chunk_size}
use Rattle.news_terms.specs.Places.{size_of}
use Rattle.news_terms.specs.Token.{Token}
use Rattle.peer_session.specs.Session.{Stands, outcome_view}
use Rattle.peer_session.specs.declared.steps.Outcome.{Outcome}
use Rattle.relay_model.specs.Fetches.{text_under}
use Rattle.relay_model.specs.Invariants.{IsWell}
use Rattle.relay_model.specs.Run.{is_running}
use Rattle.relay_model.specs.State as model
use Rattle.relay_model.specs.State.{Kept}
use Rattle.relay_model.specs.Terms.{Terms, FeedTerms}
use Rattle.relay_model.specs.World as world
use Rattle.relay_model.specs.World.{World}
use Rattle.relay_core.specs.Peers.{peer_at}
use Rattle.relay_core.specs.declared.peers.Peer.{Peer}
use Rattle.relay_core.specs.Expiring.{expirer_view}
use Rattle.relay_core.specs.Openings.{openings}
use Rattle.relay_core.specs.Queues.{jobs_of}
use Rattle.relay_core.specs.declared.system.GroupWriter.{GroupWriter}
use Rattle.relay_core.specs.declared.system.System.{System}

-- what an open fetch has gathered of the text that is whole under its token
pub data IsFront (kept : List Kept) (token : Token) (had : ℕ) (gathered : List ℕ) : Type 0 where
  -- nothing yet
  HasNone : gathered ≡ [] → had ≡ 0 → IsFront kept token had gathered
  -- the blocks that it has had, and there are more
  HasSome : (text : List ℕ) → text_under kept token ≡ Some text
      → gathered ≡ take (chunk_size * had) text → had < size_of token.length
      → IsFront kept token had gathered

-- what a session in this phase has gathered
abbrev pub IsGathered : List Kept → model.Phase → List ℕ → Type 0
IsGathered kept model.Ready gathered = gathered ≡ []
IsGathered kept (model.AwaitsBlock transfer id) gathered = gathered ≡ []
IsGathered kept (model.Holds id article) gathered = gathered ≡ []
IsGathered kept (model.Waits transfer id) gathered = gathered ≡ []
IsGathered kept (model.Fetches asked token had) gathered = IsFront kept token had gathered
IsGathered kept model.Leaving gathered = gathered ≡ []
IsGathered kept model.Ended gathered = gathered ≡ []

-- the slot of the code has this outcome
abbrev pub SlotIs : Option Outcome → Option world.Outcome → Type 0
SlotIs slot told = told ≡ option_map outcome_view slot

-- A peer stands for the session, and has its outcome in its slot; where the stores are trusted,
-- what it has gathered of a fetch is the front of the text that is whole under the token.
pub record PeerStands (trusted : Bool) (w : Terms) (kept : List Kept) (peer : Peer)
    (m : model.Session) (slot : Option world.Outcome)
    : Type 0 where
  pub gathered : List ℕ
  pub stands : Stands w peer.session m gathered
  pub fronts : trusted ≡ true → IsGathered kept m.phase gathered
  pub slot_is : SlotIs peer.slot slot

-- there is no such session, or it is closed
abbrev pub IsGone : Option model.Session → Type 0
IsGone None = Unit {0}
IsGone (Some m) = m.phase ≡ model.Ended

-- the peer that is there stands for the session, which runs; where none is, the session is gone
abbrev pub PeerIs : Bool → Terms → List Kept → Option Peer → Option model.Session
    → Option world.Outcome → Type 0
PeerIs trusted w kept None session slot = IsGone session
PeerIs trusted w kept (Some peer) session slot =
    (m : model.Session) × (session ≡ Some m) × PeerStands trusted w kept peer m slot
    × (is_running m.phase ≡ true)

-- the group writer has these jobs waiting, and this writer; a group that isn't there has neither
abbrev pub GroupWriterIs : Option GroupWriter → List model.Job → world.Writer → Type 0
GroupWriterIs None queue writer = (queue ≡ []) × (writer ≡ world.Idle)
GroupWriterIs (Some group_writer) queue writer =
    (queue ≡ map job_view (jobs_of group_writer.queue))
    × (writer ≡ writer_view token_of group_writer.writer)

-- how many tokens the ring of each feed has room for
abbrev pub ring_sizes : Terms → List ℕ
ring_sizes w = map (λ (feed : FeedTerms). feed.ring) w.feeds

-- all parts but the peers
pub record Core {S : Type 0} {g : Ghosts S} (trusted : Trust) (w : Terms) (system : System S g)
    (x : World)
    : Type 0 where
  pub newest : x.state.newest ≡ system.newest
  pub claims : KeepsAll system.shards x.state.claim
  pub count : length system.group_writers.items ≡ length w.groups
  pub group_writers : (h : ℕ)
      → GroupWriterIs (slice_get system.group_writers.items h) (x.work.queue h) (x.work.writer h)
  pub desk : KeepsFeeds system.desk (ring_sizes w) x.state.feed
  pub buffer_set : KeepsTexts trusted system.buffer_set w x.state.begun x.state.kept
      (openings x.work.writer) x.work.failures
  pub expirer : x.work.expirer ≡ expirer_view system.expirer

-- all but the peer of session n, which is taken out
pub record AgreesBut {S : Type 0} {g : Ghosts S} (trusted : Trust) (w : Terms) (n : ℕ)
    (system : System S g) (x : World)
    : Type 0 where
  pub core : Core trusted w system x
  pub peers : (s : ℕ) → s ≢ n → PeerIs trusted.honest w x.state.kept (peer_at system.peers s)
      (x.state.session s) (x.work.slot s)

-- all, and the world is well; under these terms
pub record AgreesBy {S : Type 0} {g : Ghosts S} (trusted : Trust) (w : Terms)
    (system : System S g) (x : World)
    : Type 0 where
  pub core : Core trusted w system x
  pub peers : (s : ℕ) → PeerIs trusted.honest w x.state.kept (peer_at system.peers s)
      (x.state.session s) (x.work.slot s)
  pub well : IsWell w x

-- The relay's code agrees with this world, under the terms of its configuration.
abbrev pub AgreesAs : {S : Type 0} {g : Ghosts S} → Trust → System S g → World → Type 0
AgreesAs trusted system x = AgreesBy trusted (terms_of system.config) system x

-- So it does over stores that are honest or not; where they aren't trusted nothing is said of what
-- they hold.
abbrev pub Agrees : {S : Type 0} {g : Ghosts S} → Bool → System S g → World → Type 0
Agrees trusted system x = AgreesAs (plain trusted) system x

-- It does over honest stores, and a crash may leave them.
abbrev pub AgreesLeft : {S : Type 0} {g : Ghosts S} → System S g → World → Type 0
AgreesLeft system x = AgreesAs (honestly true) system x
