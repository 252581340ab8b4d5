-- What a session of an end does, by the moments and the answers that it had: what it says to what
-- came to it, and which jobs its end hands over (docs/PROTOCOL.md, Sessions, Threads).
use Rattle.std.specs.Prelude.{◌≡◌, ◌≢◌, ◌≤◌, ℕ, ◌+◌, ◌-◌, ◌++◌, Bool, true, false, List, [], ◌∷◌}
use Rattle.std.specs.Prelude.{Option, None, Some, slice_set, slice_index_or}
use Rattle.article_fetch.specs.declared.chunk.Chunk.{Chunk}
use Rattle.article_fetch.specs.declared.chunk.Chunk.TheVariants as chunks
use Rattle.boxcar.specs.Table.{Shelves, Shows, Where}
use Rattle.buffer_group.specs.Jobs.{job_view}
use Rattle.buffer_group.specs.declared.job.Job.{Job}
use Rattle.job_queue.specs.declared.parcel.Handed.{Handed}
use Rattle.live_store.specs.Steps.{IsGoneBy, IsReadFault}
use Rattle.live_store.specs.Tied.{text_in, token_in}
use Rattle.live_store.specs.declared.writing.entering.Record.{Record}
use Rattle.news_terms.specs.BlockImage.{chunk}
use Rattle.news_terms.specs.Reply.{Greeting, reply_text}
use Rattle.news_terms.specs.Token.{Token}
use Rattle.peer_session.specs.Given.{ReadAny, gathered_on}
use Rattle.relay_model.specs.Asks.{Ask, Due, IsDue, Reads, Pushes, LooksInSlot}
use Rattle.relay_model.specs.Claims.{Accepted, Held}
use Rattle.relay_model.specs.Fetches.{Fetched, Article, Gone, NotKnown, NotRead}
use Rattle.relay_model.specs.Hears.{Heard, Hears, goes_on}
use Rattle.relay_model.specs.Run.{is_reading, new_session}
use Rattle.relay_model.specs.Shares.{Answer, ToRead, ToTake, ToPush, InSlot}
use Rattle.relay_model.specs.State as model
use Rattle.relay_model.specs.State.{Session, Phase, Holds, Leaving, Ended, in_phase, with_unread}
use Rattle.relay_model.specs.Terms.{Terms, last_moment}
use Rattle.relay_model.specs.World.{IsKept, Said, Silent, Speaks, Parts}

-- What an end has handed over: of each group the jobs, in their order; how many to all groups; and
-- the numbers of those that were answered kept (239, 235), in the order of the answers.
pub record Hands : Type 0 where
  pub jobs : List (List Handed)
  pub count : ℕ
  pub kept : List ℕ

-- a session on its way: what it is, the octets that the fetch in progress has gathered, those that
-- came to it, those that it said, those of its last reply once it has said that, and what its end
-- has handed over
pub record Point : Type 0 where
  pub session : Session
  pub gathered : List ℕ
  pub heard : List ℕ
  pub said : List ℕ
  pub parted : Option (List ℕ)
  pub hands : Hands

-- a turn: its moment, what was due, what was read where a block was to be, the answer to what was
-- asked, and what the session made of it
pub record Turn : Type 0 where
  pub now : ℕ
  pub due : Due
  pub chunk : Option Chunk
  pub told : Answer
  pub heard : Heard

-- the octets of what is said
abbrev pub octets_of : Said → List ℕ
octets_of Silent = []
octets_of (Speaks reply) = reply_text reply
octets_of (Parts reply) = reply_text reply

-- the octets of the last reply, once it is said
abbrev pub parted_by : Option (List ℕ) → Said → Option (List ℕ)
parted_by parted Silent = parted
parted_by parted (Speaks reply) = parted
parted_by parted (Parts reply) = Some (reply_text reply)

-- one job more is handed over, to its group
abbrev pub with_job : (end : ℕ) → Job → Hands → Hands
with_job end job hands =
    record hands {
      jobs = slice_set hands.jobs job.article.group
          (slice_index_or hands.jobs job.article.group []
          ++ record { end = end; number = hands.count; job = job } ∷ []);
      count = hands.count + 1;
    }

-- the job that was handed over last is answered kept
abbrev pub with_kept : Hands → Hands
with_kept hands = record hands { kept = hands.kept ++ (hands.count - 1) ∷ [] }

-- a job that found room is handed over
abbrev pub HandsPushed : (end : ℕ) → model.Job → Answer → (old new : Hands) → Type 0
HandsPushed end job (ToPush true) old new =
    (one : Job) × (job_view one ≡ job) × (new ≡ with_job end one old)
HandsPushed end job other old new = new ≡ old

-- a job that is told kept is answered so
abbrev pub HandsTold : Answer → (old new : Hands) → Type 0
HandsTold (InSlot (Some IsKept)) old new = new ≡ with_kept old
HandsTold other old new = new ≡ old

-- what an end has handed over after this was asked and answered
abbrev pub HandsAfter : (end : ℕ) → Ask → Answer → (old new : Hands) → Type 0
HandsAfter end (Pushes job) told old new = HandsPushed end job told old new
HandsAfter end (LooksInSlot transfer id) told old new = HandsTold told old new
HandsAfter end other told old new = new ≡ old

-- a session that has just been opened has said the greeting
abbrev pub greeted : (peer : ℕ) → Hands → Point
greeted peer hands =
    record {
      session = new_session peer;
      gathered = [];
      heard = [];
      said = reply_text Greeting;
      parted = None;
      hands = hands;
    }

-- a session that is closed has nothing left: no job in its hand, and no open offer
pub record IsClosed (session : Session) : Type 0 where
  pub phase : session.phase ≡ Ended
  pub hand : session.hand ≡ None
  pub offers : session.offers ≡ []

-- a piece has come
abbrev pub with_piece : List ℕ → Point → Point
with_piece piece p =
    record p {
      session = with_unread p.session (p.session.unread ++ piece);
      heard = p.heard ++ piece;
    }

-- the connection is gone
abbrev pub broken_off : Point → Point
broken_off p = record p { session = in_phase p.session Leaving; gathered = [] }

-- one record of the register has this token and this text
pub record IsTextUnder (register : Shelves) (token : Token) (text : List ℕ) : Type 0 where
  pub shown : Where Record
  pub shows : Shows register shown
  pub named : token_in shown ≡ token
  pub octets : text_in shown ≡ text

-- what a session makes of what it was answered, where a text that was read may be any
abbrev pub HearsAny : ℕ → Session → Ask → Answer → Heard → Type 0
HearsAny s session (Reads asked token had) answer heard =
    (found : Fetched) × (answer ≡ ToRead found)
    × ReadAny session asked token had found (goes_on asked token had found) heard
HearsAny s session other answer heard = Hears s session other answer heard

-- what a session makes of what it was answered: what the definitions say, where the stores are
-- honest; and where nothing is said of them, the same with any text in place of an article's
abbrev pub HearsBy : (honest : Bool) → ℕ → Session → Ask → Answer → Heard → Type 0
HearsBy true s session ask answer heard = Hears s session ask answer heard
HearsBy false s session ask answer heard = HearsAny s session ask answer heard

-- the text of which block k was read: over honest stores that of one record of the register, which
-- has the token; over any the octets that were read, the block's behind those gathered
abbrev pub IsTextRead : (honest : Bool) → Shelves → Token → (k : ℕ) → (gathered octets : List ℕ)
    → List ℕ → Type 0
IsTextRead true register token k gathered octets text =
    IsTextUnder register token text × (octets ≡ chunk k text)
IsTextRead false register token k gathered octets text = text ≡ gathered ++ octets

-- What was found of a token, by what was read of block k of its article once this was gathered: a
-- text of which the block was read; that it is gone by the front that the read gave, which has
-- passed the article; that it was not read by the fault that the read gave, which is of a read of
-- the token's article.
abbrev pub IsFoundUnder : (honest : Bool) → Shelves → Token → (k : ℕ) → List ℕ → Chunk → Fetched
    → Type 0
IsFoundUnder honest register token k gathered (chunks.Found octets) (Article text) =
    IsTextRead honest register token k gathered octets text
IsFoundUnder honest register token k gathered (chunks.Gone front) Gone = IsGoneBy front token
IsFoundUnder honest register token k gathered chunks.Unknown NotKnown = Unit {0}
IsFoundUnder honest register token k gathered (chunks.Device fault) NotRead =
    IsReadFault token fault
IsFoundUnder honest register token k gathered other found = ⊥

-- this was read, and found, of the token that was to be read
abbrev pub IsFoundFor : (honest : Bool) → Shelves → List ℕ → Ask → Chunk → Fetched → Type 0
IsFoundFor honest register gathered (Reads asked token had) read found =
    IsFoundUnder honest register token had gathered read found
IsFoundFor honest register gathered other read found = ⊥

-- a block was read where the answer is to a read, and only there; what is answered is what was read
-- of the token that was to be read
abbrev pub IsToldFor : (honest : Bool) → Shelves → List ℕ → Ask → Option Chunk → Answer → Type 0
IsToldFor honest register gathered ask (Some read) (ToRead found) =
    IsFoundFor honest register gathered ask read found
IsToldFor honest register gathered ask None (ToRead found) = ⊥
IsToldFor honest register gathered ask (Some read) other = ⊥
IsToldFor honest register gathered ask None other = Unit {0}

-- what the fetch in progress has gathered after this was asked, read and answered: the block's
-- octets behind the others while it goes on, else nothing
abbrev pub gathered_after : Ask → Option Chunk → Answer → List ℕ → List ℕ
gathered_after (Reads asked token had) (Some read) (ToRead found) gathered =
    gathered_on (goes_on asked token had found) gathered read
gathered_after ask read told gathered = []

-- an article that is held is not held again: whoever takes it waits until no other is being stored
abbrev pub IsHeldOnce : Phase → Answer → Type 0
IsHeldOnce phase answer =
    (id : List ℕ) (article : Accepted) → phase ≡ Holds id article → answer ≢ ToTake Held

-- the turn is one of session s: this was due at its moment, the session made that of the answer,
-- and what it read is of the token that was due
pub record IsTurnOf (honest : Bool) (register : Shelves) (w : Terms) (s : ℕ) (p : Point)
    (turn : Turn) : Type 0 where
  pub moment : turn.now ≤ last_moment
  pub due : IsDue w p.session turn.now turn.due
  pub hears : HearsBy honest s turn.due.after turn.due.ask turn.told turn.heard
  pub found : IsToldFor honest register p.gathered turn.due.ask turn.chunk turn.told
  pub held : IsHeldOnce p.session.phase turn.told

-- a turn was had, and the end has handed over this
abbrev pub after_turn : Point → Turn → Hands → Point
after_turn p turn hands =
    record p {
      session = turn.heard.session;
      gathered = gathered_after turn.due.ask turn.chunk turn.told p.gathered;
      said = p.said ++ octets_of turn.heard.said;
      parted = parted_by p.parted turn.heard.said;
      hands = hands;
    }

-- How session s of this end comes from one point to another: pieces come and the connection may
-- break while it reads, and it has turns.
pub data Course (honest : Bool) (register : Shelves) (w : Terms) (s end : ℕ) (first : Point)
    : Point → Type 0 where
  Begins : Course honest register w s end first first
  Comes : (p : Point) (piece : List ℕ) → Course honest register w s end first p
      → is_reading p.session.phase ≡ true
      → Course honest register w s end first (with_piece piece p)
  Goes : (p : Point) (turn : Turn) (hands : Hands) → Course honest register w s end first p
      → IsTurnOf honest register w s p turn → HandsAfter end turn.due.ask turn.told p.hands hands
      → Course honest register w s end first (after_turn p turn hands)
  Breaks : (p : Point) → Course honest register w s end first p
      → is_reading p.session.phase ≡ true → Course honest register w s end first (broken_off p)
