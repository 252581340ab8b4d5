-- The state with the work in hand: how far queues, writers and the expirer are, what is in the
-- sessions' slots, and how often each device has failed (docs/PROTOCOL.md, Store, Events and
-- outputs). The laws speak of the state alone.
use Rattle.std.specs.Prelude.{ℕ, ◌≤◌, ◌<◌, List, [], Option, None, Some}
use Rattle.news_terms.specs.Reply.{Reply, reply_text}
use Rattle.news_terms.specs.Token.{Token}
use Rattle.relay_model.specs.Claims.{Claim, Passed}
use Rattle.relay_model.specs.State.{State, Session, Job, put_id, put_at, empty_state}
use Rattle.relay_model.specs.Terms.{Reason}

-- how the storing of an article ended: it was accepted, or given up
pub data Outcome : Type 0 where
  IsKept HasFailed : Outcome

-- how far the writer of a group is (docs/PROTOCOL.md, Groups and writers)
pub data Writer : Type 0 where
  -- it has no job
  Idle : Writer
  -- it took this job
  Popped : (job : Job) → Writer
  -- the job is begun under this token, and so many of its blocks are written
  Writing : (job : Job) (token : Token) (written : ℕ) → Writer
  -- the job's text is whole under this token
  Finished : (job : Job) (token : Token) → Writer
  -- the job can't be stored; where its write is still open, under this token, it is to be abandoned
  Failed : (job : Job) (open_one : Option Token) → Writer
  -- the article of this session was accepted, and the session isn't told yet
  Settled : (session : ℕ) → Writer
  -- the article of this session was given up, and the session isn't told yet
  Forgotten : (session : ℕ) → Writer

-- what an Expire does next: it reads the next front, or with all fronts it forgets in a shard, so
-- many times more (docs/PROTOCOL.md, Forgetting)
pub data Expirer : Type 0 where
  Reading : (fronts : List Passed) → Expirer
  Forgetting : (fronts : List Passed) (left : ℕ) → Expirer

-- the work in hand
pub record Work : Type 0 where
  -- the jobs pushed to a group and not popped, from the oldest on
  pub queue : ℕ → List Job
  pub writer : ℕ → Writer
  -- the outcome that is in a session's slot
  pub slot : ℕ → Option Outcome
  -- how often the device of a buffer has failed
  pub failures : ℕ → ℕ
  pub expirer : Expirer

-- the state with the work in hand
pub record World : Type 0 where
  pub state : State
  pub work : Work

-- nothing has come, and nobody has anything to do; each device has failed so often before
abbrev pub empty_world : (ℕ → ℕ) → World
empty_world failures =
    record {
      state = empty_state;
      work = record {
        queue = λ group. [];
        writer = λ group. Idle;
        slot = λ session. None;
        failures = failures;
        expirer = Reading [];
      };
    }

-- each device has failed as often as before, or more often
abbrev pub Rises : (ℕ → ℕ) → (ℕ → ℕ) → Type 0
Rises before after = (buffer : ℕ) → before buffer ≤ after buffer

-- the device of this buffer has failed once more at least
pub record HasFailedAt (buffer : ℕ) (before after : ℕ → ℕ) : Type 0 where
  pub rises : Rises before after
  pub here : before buffer < after buffer

-- why an event is refused, in the order of trial (docs/PROTOCOL.md, Events and outputs)
pub data Fault : Type 0 where
  -- memory was refused
  Memory : Fault
  -- there is no such session, or it has no such event any more
  NoSession : Fault
  -- the number isn't above that of every earlier session
  SessionTaken : Fault
  -- there is no such group
  NoGroup : Fault
  -- there is no such peer
  NoPeer : Fault
  -- the moment is past the last one
  BadMoment : Fault
  -- there is no such shard
  NoShard : Fault
  -- an id is being stored
  NotIdle : Fault
  -- a device failed while the relay was closed and started again
  NotRestarted : Fault

-- what an event is answered (docs/PROTOCOL.md, Outputs)
pub data Output : Type 0 where
  -- nothing is said
  Quiet : Output
  -- these octets go to the session
  Sent : (session : ℕ) (octets : List ℕ) → Output
  -- these octets go to the session, whose article is refused for this reason
  Rejects : (session : ℕ) (octets : List ℕ) (reason : Reason) → Output
  -- these octets go to the session, which leaves
  Ended : (session : ℕ) (octets : List ℕ) → Output
  -- the event is refused, and nothing changed
  Refuses : (fault : Fault) → Output

-- what a session says in a Turn
pub data Said : Type 0 where
  -- nothing
  Silent : Said
  -- this reply
  Speaks : (reply : Reply) → Said
  -- this reply, and it leaves
  Parts : (reply : Reply) → Said

-- octets go to a session that doesn't leave: its article is refused for this reason, or none is
abbrev pub spoken : ℕ → List ℕ → (why : Option Reason) → Output
spoken s octets None = Sent s octets
spoken s octets (Some reason) = Rejects s octets reason

-- the same as an output
abbrev pub output_of : ℕ → Said → (why : Option Reason) → Output
output_of s Silent why = Quiet
output_of s (Speaks reply) why = spoken s (reply_text reply) why
output_of s (Parts reply) why = Ended s (reply_text reply)

-- the world with this claim on the id
abbrev pub with_claim : World → List ℕ → Claim → World
with_claim x id claim =
    record x { state = record x.state { claim = put_id x.state.claim id claim } }

-- the world with this session under the number
abbrev pub with_session : World → ℕ → Session → World
with_session x s session =
    record x { state = record x.state { session = put_at x.state.session s (Some session) } }

-- the world with these failures
abbrev pub with_failures : World → (ℕ → ℕ) → World
with_failures x failures = record x { work = record x.work { failures = failures } }
