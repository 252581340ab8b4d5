-- What a list of events may be answered, and the world after it (docs/PROTOCOL.md, Events and
-- outputs).
use Rattle.std.specs.Prelude.{◌≡◌, ℕ, zero, suc, ◌-◌, ◌++◌, ◌==◌, ◌%◌, nat_lt, nat_le, sum, Bool}
use Rattle.std.specs.Prelude.{true, false, List, [], ◌∷◌, length, slice_get, Option, None, Some}
use Rattle.std.specs.Prelude.{option_map, if◌then◌else◌}
use Rattle.news_terms.specs.Places.{Buffer}
use Rattle.news_terms.specs.Reply.{Greeting, reply_text}
use Rattle.relay_model.specs.Asks.{Due, IsDue, reason_of}
use Rattle.relay_model.specs.Claims.{Claim, Passed, after_expire, after_restart, is_storing}
use Rattle.relay_model.specs.Fetches.{front_of}
use Rattle.relay_model.specs.Hears.{Heard, Hears}
use Rattle.relay_model.specs.Shares.{Answer, Shares}
use Rattle.relay_model.specs.State.{State, Session, Phase, Ready, AwaitsBlock, Holds, Waits}
use Rattle.relay_model.specs.State.{Fetches}
use Rattle.relay_model.specs.State.{Leaving, Ended, put_at, in_phase, with_unread}
use Rattle.relay_model.specs.Terms.{Terms, last_moment, shard_count}
use Rattle.relay_model.specs.World.{World, Expirer, Reading, Forgetting, Idle, Output, Quiet, Sent}
use Rattle.relay_model.specs.World.{Refuses, Fault, Memory, NoSession, SessionTaken, NoGroup}
use Rattle.relay_model.specs.World.{NoPeer, BadMoment, NoShard, NotIdle, NotRestarted, Rises}
use Rattle.relay_model.specs.World.{HasFailedAt, output_of, with_session, with_failures}
use Rattle.relay_model.specs.World as world
use Rattle.relay_model.specs.Writers.{Writes}

-- what happens to the relay
pub data Event : Type 0 where
  -- a session of a peer is opened
  Open : (session peer : ℕ) → Event
  -- octets come to a session
  Bytes : (session : ℕ) (piece : List ℕ) → Event
  -- the next bit of a session's work
  Turn : (session now : ℕ) → Event
  -- the next bit of the work of a group's writer
  Write : (group now : ℕ) → Event
  -- a session's connection is gone
  Break : (session : ℕ) → Event
  -- the next bit of forgetting
  Expire : (shard now : ℕ) → Event
  -- the relay is closed and started again
  Restart : Event

-- a session in this phase has Turns
abbrev pub is_running : Phase → Bool
is_running Ready = true
is_running (AwaitsBlock transfer id) = true
is_running (Holds id article) = true
is_running (Waits transfer id) = true
is_running (Fetches asked token had) = true
is_running Leaving = true
is_running Ended = false

-- a session in this phase reads
abbrev pub is_reading : Phase → Bool
is_reading Ready = true
is_reading (AwaitsBlock transfer id) = true
is_reading (Holds id article) = true
is_reading (Waits transfer id) = true
is_reading (Fetches asked token had) = true
is_reading Leaving = false
is_reading Ended = false

-- there is such a session, and it is in a phase of these
abbrev pub is_there : (Phase → Bool) → Option Session → Bool
is_there test None = false
is_there test (Some session) = test session.phase

-- the number isn't above every earlier one
abbrev pub is_taken : Option ℕ → ℕ → Bool
is_taken None s = false
is_taken (Some newest) s = nat_le s newest

-- the first of two tests that isn't passed
abbrev pub first_of_two : Bool → Fault → Bool → Fault → Option Fault
first_of_two one fault other next =
    if one then (if other then None else Some next) else Some fault

-- the first reason to refuse an event; want of memory, and why a Restart is refused, stand below
abbrev pub refusal : Terms → State → Event → Option Fault
refusal w σ (Open s peer) =
    if is_taken σ.newest s then Some SessionTaken
    else (if nat_lt peer (length w.peers) then None else Some NoPeer)
refusal w σ (Bytes s piece) = if is_there is_reading (σ.session s) then None else Some NoSession
refusal w σ (Turn s now) =
    first_of_two (is_there is_running (σ.session s)) NoSession (nat_le now last_moment) BadMoment
refusal w σ (Write g now) =
    first_of_two (nat_lt g (length w.groups)) NoGroup (nat_le now last_moment) BadMoment
refusal w σ (Break s) = if is_there is_reading (σ.session s) then None else Some NoSession
refusal w σ (Expire shard now) =
    first_of_two (nat_lt shard shard_count) NoShard (nat_le now last_moment) BadMoment
refusal w σ Restart = None

-- a session that has just been opened
abbrev pub new_session : ℕ → Session
new_session peer =
    record { peer = peer; unread = []; offers = []; phase = Ready; hand = None }

-- the world with a new session
abbrev pub opened : World → ℕ → ℕ → World
opened x s peer =
    record x {
      state = record x.state {
        session = put_at x.state.session s (Some (new_session peer));
        newest = Some s;
      };
    }

-- A Turn: what is due is asked, done and answered, and the answer is heard.
pub record Turns (w : Terms) (x : World) (s now : ℕ) (output : Output) (x' : World) : Type 0 where
  pub session : Session
  pub there : x.state.session s ≡ Some session
  pub due : Due
  pub is_due : IsDue w session now due
  pub answer : Answer
  pub between : World
  pub shares : Shares w x s now due.ask answer between
  pub heard : Heard
  pub hears : Hears s due.after due.ask answer heard
  pub output_is : output ≡ output_of s heard.said (reason_of due.ask)
  pub after : x' ≡ with_session between s heard.session

-- the shard of a message-id: the sum of its octets modulo 16 (docs/PROTOCOL.md, Claims)
abbrev pub shard_of : List ℕ → ℕ
shard_of id = sum id % shard_count

-- the ids of one shard, where they may be forgotten, become unknown
abbrev pub forgetting : (List ℕ → Claim) → (shard now : ℕ) → Option ℕ → List Passed → List ℕ → Claim
forgetting claim shard now None fronts id = claim id
forgetting claim shard now (Some remember) fronts id =
    if shard_of id == shard then after_expire now remember fronts (claim id) else claim id

-- the expirer when so many of the Expires that forget are left; with none it begins again
abbrev pub forgetter : List Passed → ℕ → Expirer
forgetter fronts zero = Reading []
forgetter fronts (suc left) = Forgetting fronts (suc left)

-- a buffer's blocks and front, as they are read
abbrev pub passed_of : Terms → State → Buffer → Passed
passed_of w σ buffer =
    record { buffer = buffer.number; blocks = buffer.blocks; front = front_of w σ buffer }

-- the world with the expirer this far
abbrev pub expirer_at : World → Expirer → World
expirer_at x expirer = record x { work = record x.work { expirer = expirer } }

-- with these fronts the ids of the shard that may be forgotten become unknown; so many of the
-- Expires that forget are left
abbrev pub forgotten : Terms → World → (shard now : ℕ) → List Passed → ℕ → World
forgotten w x shard now fronts left =
    record {
      state = record x.state { claim = forgetting x.state.claim shard now w.remember fronts };
      work = record x.work { expirer = forgetter fronts left };
    }

-- the next front is read; with none left it forgets
abbrev pub reads_front : Terms → World → (shard now : ℕ) → List Passed → Option Buffer → World
reads_front w x shard now fronts (Some buffer) =
    expirer_at x (Reading (fronts ++ passed_of w x.state buffer ∷ []))
reads_front w x shard now fronts None = forgotten w x shard now fronts 15

-- what an Expire does: it reads the next front, or with all fronts it forgets in the shard
abbrev pub expired : Terms → World → (shard now : ℕ) → Expirer → World
expired w x shard now (Reading fronts) =
    reads_front w x shard now fronts (slice_get w.buffers (length fronts))
expired w x shard now (Forgetting fronts left) = forgotten w x shard now fronts (left - 1)

-- Restart: sessions end, what was only offered is unknown, nobody has anything to do, and all else
-- stays (docs/PROTOCOL.md, Clean stop and start)
abbrev pub restarted : World → (ℕ → ℕ) → World
restarted x failures =
    record {
      state = record x.state {
        claim = λ id. after_restart (x.state.claim id);
        session = λ s. option_map (λ session. in_phase session Ended) (x.state.session s);
      };
      work = record {
        queue = λ group. [];
        writer = λ group. Idle;
        slot = λ session. None;
        failures = failures;
        expirer = Reading [];
      };
    }

-- what a Restart is answered: an id is being stored, memory is wanted, a device failed, or it is
-- done; a refusal changes no more than how often devices have failed
pub data Restarts (w : Terms) (x : World) (output : Output) (x' : World) : Type 0 where
  IsBusy : (id : List ℕ) → is_storing (x.state.claim id) ≡ true → output ≡ Refuses NotIdle
      → x' ≡ x → Restarts w x output x'
  HasNoRoom : (failures : ℕ → ℕ) → Rises x.work.failures failures → output ≡ Refuses Memory
      → x' ≡ with_failures x failures → Restarts w x output x'
  HasNot : (i : ℕ) (buffer : Buffer) (failures : ℕ → ℕ) → slice_get w.buffers i ≡ Some buffer
      → ((id : List ℕ) → is_storing (x.state.claim id) ≡ false)
      → HasFailedAt buffer.number x.work.failures failures → output ≡ Refuses NotRestarted
      → x' ≡ with_failures x failures → Restarts w x output x'
  IsDone : (failures : ℕ → ℕ) → ((id : List ℕ) → is_storing (x.state.claim id) ≡ false)
      → Rises x.work.failures failures → output ≡ Quiet
      → x' ≡ restarted x failures → Restarts w x output x'

-- what an event that isn't refused does
abbrev pub Does : Terms → World → Event → Output → World → Type 0
Does w x (Open s peer) output x' = (output ≡ Sent s (reply_text Greeting)) × (x' ≡ opened x s peer)
Does w x (Bytes s piece) output x' =
    (session : Session) × (x.state.session s ≡ Some session) × (output ≡ Quiet)
    × (x' ≡ with_session x s (with_unread session (session.unread ++ piece)))
Does w x (Turn s now) output x' = Turns w x s now output x'
Does w x (Write g now) output x' = (output ≡ Quiet) × Writes w x g now x'
Does w x (Break s) output x' =
    (session : Session) × (x.state.session s ≡ Some session) × (output ≡ world.Ended s [])
    × (x' ≡ with_session x s (in_phase session Leaving))
Does w x (Expire shard now) output x' =
    (output ≡ Quiet) × (x' ≡ expired w x shard now x.work.expirer)
Does w x Restart output x' = Restarts w x output x'

-- such an event may be answered that memory was refused, with nothing changed: no Write, Break or
-- Expire takes any, and a Restart that wants memory may have called devices before
abbrev pub takes_memory : Event → Bool
takes_memory (Open s peer) = true
takes_memory (Bytes s piece) = true
takes_memory (Turn s now) = true
takes_memory (Write g now) = false
takes_memory (Break s) = false
takes_memory (Expire shard now) = false
takes_memory Restart = false

-- what an event may be answered, and the world after it
pub data Step (w : Terms) (x : World) (event : Event) (output : Output) (x' : World) : Type 0 where
  IsRefused : (fault : Fault) → refusal w x.state event ≡ Some fault → output ≡ Refuses fault
      → x' ≡ x → Step w x event output x'
  WantsMemory : takes_memory event ≡ true → output ≡ Refuses Memory → x' ≡ x
      → Step w x event output x'
  IsDone : refusal w x.state event ≡ None → Does w x event output x' → Step w x event output x'

-- what a list of events may be answered, one step after the other
abbrev pub Run : Terms → World → List Event → List Output → World → Type 0
Run w x [] [] x' = x' ≡ x
Run w x (event ∷ events) (output ∷ outputs) x' =
    (mid : World) × Step w x event output mid × Run w mid events outputs x'
Run w x [] (output ∷ outputs) x' = ⊥
Run w x (event ∷ events) [] x' = ⊥
