-- What a session makes of whatever a read gave: of a text it isn't asked that it is an article's
-- (docs/PROTOCOL.md, Sessions).
use Rattle.std.specs.Prelude.{◌≡◌, ℕ, ◌+◌, Bool, true, false, List, []}
use Rattle.article_fetch.specs.Fetch.{Fetch}
use Rattle.article_fetch.specs.Given.{ReplyToAny, gathered_with, given}
use Rattle.article_fetch.specs.declared.chunk.Chunk.{Chunk}
use Rattle.news_terms.specs.Reply.{Reply}
use Rattle.news_terms.specs.Token.{Token}
use Rattle.relay_model.specs.Asks.{Due, Reads}
use Rattle.relay_model.specs.Fetches.{Fetched}
use Rattle.relay_model.specs.Hears.{Heard, goes_on, says, silent}
use Rattle.relay_model.specs.State as model
use Rattle.relay_model.specs.State.{Asked, in_phase}
use Rattle.relay_model.specs.Terms.{Terms}
use Rattle.peer_session.specs.Answers.{IsOther}
use Rattle.peer_session.specs.Hearing.{Heeds, LeavesAsIs}
use Rattle.peer_session.specs.Planning.{Planned}
use Rattle.peer_session.specs.Said.{IsSaid}
use Rattle.peer_session.specs.Session.{HasAll, Stands, gathered_of, has_parted, session_view}
use Rattle.peer_session.specs.declared.session.Session.{Session}
use Rattle.peer_session.specs.declared.steps.Answer.{Answer}
use Rattle.peer_session.specs.declared.steps.Answer.TheVariants as answers

-- while it goes on it says nothing; it says what it was given by the last Turn
abbrev pub ReadAny : model.Session → Asked → Token → ℕ → Fetched → Bool → Heard → Type 0
ReadAny session asked token had found true heard =
    heard ≡ silent (in_phase session (model.Fetches asked token (had + 1)))
ReadAny session asked token had found false heard =
    (reply : Reply) × ReplyToAny asked token found reply × (heard ≡ says session reply)

-- what a session has gathered once this was read: the block's octets behind the others while the
-- fetch goes on, and nothing once it has ended
abbrev pub gathered_on : (goes : Bool) → List ℕ → Chunk → List ℕ
gathered_on true gathered chunk = gathered_with gathered chunk
gathered_on false gathered chunk = []

-- What the session that has gathered this made of a block that was read, whatever that gave: what
-- it says, in octets, what it stands for, and what it has gathered then.
pub record HeardOfRead (w : Terms) (session : model.Session) (asked : Asked) (token : Token)
    (had : ℕ) (gathered : List ℕ) (chunk : Chunk) (said : List ℕ) (new : Session) : Type 0 where
  pub heard : Heard
  pub later : List ℕ
  pub hears : ReadAny session asked token had (given gathered chunk)
      (goes_on asked token had (given gathered chunk)) heard
  pub is_said : IsSaid said (has_parted new) heard.said
  pub stands : Stands w new heard.session later
  pub gathers : later ≡ gathered_on (goes_on asked token had (given gathered chunk)) gathered chunk

-- whatever was read of the next block of the fetch that is asked for
abbrev pub HeedsRead : Session → Answer → List ℕ → Session → Type 0
HeedsRead old answer said new =
    (w : Terms) (m : model.Session) (d : Due) (gathered : List ℕ) (asked : Asked) (token : Token)
    (had : ℕ) (chunk : Chunk) → Planned w old m d gathered false → d.ask ≡ Reads asked token had
    → answer ≡ answers.Chunk chunk
    → HeardOfRead w d.after asked token had gathered chunk said new

-- The same of a fetch of the code. No public contract cites it.
pub record ReadAnyIs (said : List ℕ) (old : Session) (session : model.Session) (fetch : Fetch)
    (chunk : Chunk) (new : Session) : Type 0 where
  pub heard : Heard
  pub hears : ReadAny session fetch.asked fetch.token fetch.had (given fetch.gathered chunk)
      (goes_on fetch.asked fetch.token fetch.had (given fetch.gathered chunk)) heard
  pub said_is : IsSaid said (has_parted new) heard.said
  pub is : heard.session ≡ session_view new
  pub limit : new.cutter.limit ≡ old.cutter.limit
  pub has_all : HasAll new.phase new.cutter.dropped
  pub gathers : gathered_of new.phase
      ≡ gathered_on (goes_on fetch.asked fetch.token fetch.had (given fetch.gathered chunk))
      fetch.gathered chunk

-- The session of this number heard the answer to what it had planned: as the definitions say, and
-- of a read whatever that gave; of another one it says nothing, and is as it was once nothing was
-- planned any more. No public contract cites it.
pub record HearsPlanned (s : ℕ) (old rest : Session) (answer : Answer) (said : List ℕ)
    (new : Session) : Type 0 where
  pub heard : Heeds s old answer said new
  pub given : HeedsRead old answer said new
  pub other : IsOther old.planned.todo answer → LeavesAsIs said rest new
