-- What a session makes of an answer, in the terms of the definitions.
use Rattle.std.specs.Prelude.{◌≡◌, ◌⊎◌, ℕ, ◌*◌, false, List, [], take}
use Rattle.article_fetch.specs.Fetch.{Fetch}
use Rattle.relay_model.specs.Asks as asks
use Rattle.relay_model.specs.Asks.{Ask, Due}
use Rattle.relay_model.specs.Fetches as fetches
use Rattle.relay_model.specs.Fetches.{Fetched}
use Rattle.relay_model.specs.Hears.{Heard, Hears, ReadHeard, goes_on}
use Rattle.relay_model.specs.Shares as shares
use Rattle.relay_model.specs.State as model
use Rattle.relay_model.specs.Terms.{Terms}
use Rattle.peer_session.specs.Answers.{IsAnswerTo, handed}
use Rattle.peer_session.specs.Planning.{Planned}
use Rattle.peer_session.specs.Said.{IsSaid}
use Rattle.peer_session.specs.Session.{HasAll, Stands, HasReadNone, gathered_of, has_parted}
use Rattle.peer_session.specs.Session.{session_view}
use Rattle.peer_session.specs.declared.session.Session.{Session}
use Rattle.peer_session.specs.declared.steps.Answer.{Answer}

-- what the session has gathered after it heard the answer: nothing, or the front of the text that
-- was told
abbrev pub Gathers : Ask → shares.Answer → model.Phase → List ℕ → Type 0
Gathers ask told model.Ready later = later ≡ []
Gathers ask told (model.AwaitsBlock transfer id) later = later ≡ []
Gathers ask told (model.Holds id article) later = later ≡ []
Gathers ask told (model.Waits transfer id) later = later ≡ []
Gathers ask told (model.Fetches asked token had) later =
    (later ≡ [] × had ≡ 0)
    ⊎ ((before : ℕ) × (text : List ℕ) × (ask ≡ asks.Reads asked token before)
    × (told ≡ shares.ToRead (fetches.Article text)) × (later ≡ take (480 * had) text))
Gathers ask told model.Leaving later = later ≡ []
Gathers ask told model.Ended later = later ≡ []

-- What the session of this number made of the answer is what the definitions say: what it says, in
-- octets, and what it stands for.
pub record HeardBy (w : Terms) (s : ℕ) (d : Due) (told : shares.Answer) (said : List ℕ)
    (new : Session) : Type 0 where
  pub heard : Heard
  pub later : List ℕ
  pub hears : Hears s d.after d.ask told heard
  pub is_said : IsSaid said (has_parted new) heard.said
  pub stands : Stands w new heard.session later
  pub gathers : Gathers d.ask told heard.session.phase later

abbrev pub Heeds : ℕ → Session → Answer → List ℕ → Session → Type 0
Heeds s old answer said new =
    (w : Terms) (m : model.Session) (d : Due) (gathered : List ℕ) (told : shares.Answer)
    → Planned w old m d gathered (handed answer) → IsAnswerTo d.ask gathered answer told
    → HeardBy w s d told said new

-- what was planned is planned no more, and nothing else changed
abbrev pub Forgets : Session → Session → Type 0
Forgets old new =
    (w : Terms) (m : model.Session) (d : Due) (gathered : List ℕ)
    → Planned w old m d gathered false → Stands w new m gathered

-- The octets are what was said, and the new session stands for what heard it. No public contract
-- cites it.
pub record HeardIs (said : List ℕ) (old : Session) (heard : Heard) (new : Session) : Type 0 where
  pub said_is : IsSaid said (has_parted new) heard.said
  pub is : heard.session ≡ session_view new
  pub limit : new.cutter.limit ≡ old.cutter.limit
  pub has_all : HasAll new.phase new.cutter.dropped
  pub begins : HasReadNone new.phase

-- The same of a block that was read of a fetch. No public contract cites it.
pub record ReadHeardIs (said : List ℕ) (old : Session) (session : model.Session) (fetch : Fetch)
    (found : Fetched) (new : Session) : Type 0 where
  pub heard : Heard
  pub hears : ReadHeard session fetch.asked fetch.token fetch.had found
      (goes_on fetch.asked fetch.token fetch.had found) heard
  pub said_is : IsSaid said (has_parted new) heard.said
  pub is : heard.session ≡ session_view new
  pub limit : new.cutter.limit ≡ old.cutter.limit
  pub has_all : HasAll new.phase new.cutter.dropped
  pub gathers : Gathers (asks.Reads fetch.asked fetch.token fetch.had) (shares.ToRead found)
      heard.session.phase (gathered_of new.phase)

-- nothing is said, and the session is as it was
abbrev pub LeavesAsIs : List ℕ → Session → Session → Type 0
LeavesAsIs said old new = (said ≡ []) × (new ≡ old)

-- What is so of an answer was heard; what is said of another one is nothing, and it leaves the
-- session as it is. No public contract cites it.
pub record HeardUnless (Heard Other : Type 0) (said : List ℕ) (old new : Session) : Type 0 where
  pub heard : Heard
  pub other : Other → LeavesAsIs said old new

-- The same of a read, with what is so whatever that gave.
pub record ReadUnless (Heard Given Other : Type 0) (said : List ℕ) (old new : Session)
    : Type 0 where
  pub heard : Heard
  pub given : Given
  pub other : Other → LeavesAsIs said old new
