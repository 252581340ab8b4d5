-- Begin, Store, Accept and Abandon, and in which Write each comes
-- (docs/PROTOCOL.md, Groups and writers).
use Rattle.std.specs.Prelude.{◌≡◌, ℕ, ◌≤◌, ◌<◌, ◌+◌, nat_eq, List, [], ◌∷◌, ◌++◌, length, slice_get}
use Rattle.std.specs.Prelude.{option_and_then, Option, None, Some, if◌then◌else◌}
use Rattle.std.specs.List.{list_any}
use Rattle.news_terms.specs.Courses.{Course, course_next, place_next}
use Rattle.news_terms.specs.Places.{Group, Place, size_of, last_cycle}
use Rattle.news_terms.specs.Token.{Token}
use Rattle.relay_model.specs.Claims.{Claim, Unknown, Storing, Stored, Stage, Waiting, Begun, Failed}
use Rattle.relay_model.specs.Claims.{Whole}
use Rattle.relay_model.specs.State.{State, Feed, Job, put_id, put_at}
use Rattle.relay_model.specs.Terms.{Terms}
use Rattle.relay_model.specs.World.{World, Writer, Idle, Popped, Writing, Finished, Settled}
use Rattle.relay_model.specs.World.{Forgotten, Outcome, IsKept, HasFailed, Rises, HasFailedAt}
use Rattle.relay_model.specs.World.{with_failures}
use Rattle.relay_model.specs.World as world

-- the blocks of a job's text
abbrev pub job_size : Job → ℕ
job_size job = size_of (length job.article.text)

-- where the job's article goes, after those that its group began
-- (docs/PROTOCOL.md, Groups and writers)
abbrev pub place_for : Terms → State → Job → Option Place
place_for w σ job =
    option_and_then (λ group. place_next group (σ.begun job.article.group) (job_size job))
    (slice_get w.groups job.article.group)

-- the token of a job's article at a place
abbrev pub token_at : Job → Place → Token
token_at job place =
    record {
      class = job.article.class;
      buffer = place.buffer.number;
      cycle = place.cycle;
      first = place.first;
      length = length job.article.text;
    }

-- the job's id is being stored, at this stage
abbrev pub staged : Job → Stage → Claim
staged job stage = Storing job.session job.article stage

-- the state with this claim on the job's id
abbrev pub with_stage : State → Job → Stage → State
with_stage σ job stage = record σ { claim = put_id σ.claim job.id (staged job stage) }

-- the course of a group with one article more, where there is such a group
abbrev pub begun_in : Option Group → Course → ℕ → Course
begun_in None course size = course
begun_in (Some group) course size = course_next group course size

-- Begin: a text that waits has its place, where a token has room for the cycle; it joins what its
-- group began. From here on all that the new front passes is gone.
pub record Begins (w : Terms) (σ : State) (job : Job) (token : Token) (σ' : State) : Type 0 where
  pub place : Place
  pub waiting : σ.claim job.id ≡ staged job Waiting
  pub next : place_for w σ job ≡ Some place
  pub in_time : place.cycle ≤ last_cycle
  pub named : token ≡ token_at job place
  pub after : σ' ≡ record (with_stage σ job (Begun token)) {
    begun = put_at σ.begun job.article.group
        (begun_in (slice_get w.groups job.article.group) (σ.begun job.article.group)
        (job_size job));
  }

-- its place would be in a cycle that no token has room for
pub record IsWorn (w : Terms) (σ : State) (job : Job) : Type 0 where
  pub place : Place
  pub waiting : σ.claim job.id ≡ staged job Waiting
  pub next : place_for w σ job ≡ Some place
  pub past : last_cycle < place.cycle

-- Store: a text that was begun becomes whole.
pub record Stores (σ : State) (job : Job) (token : Token) (σ' : State) : Type 0 where
  pub begun : σ.claim job.id ≡ staged job (Begun token)
  pub after : σ' ≡ record (with_stage σ job (Whole token)) {
    kept = σ.kept ++ record { token = token; id = job.id; text = job.article.text } ∷ [];
  }

-- Store, where a write of its blocks failed: it has failed.
pub record Fails (σ : State) (job : Job) (token : Token) (σ' : State) : Type 0 where
  pub begun : σ.claim job.id ≡ staged job (Begun token)
  pub after : σ' ≡ with_stage σ job Failed

-- the feeds once those permitted have gained the token, each once
abbrev pub gaining : (ℕ → Feed) → List ℕ → Token → ℕ → Feed
gaining feed permitted token f =
    if list_any (nat_eq f) permitted then record (feed f) { gained = (feed f).gained ++ token ∷ [] }
    else feed f

-- Accept: the id of a text that is whole is stored from this moment on, and each permitted feed
-- gains its token, in one step (from which on its writer has the outcome).
pub record Accepts (σ : State) (job : Job) (token : Token) (now : ℕ) (σ' : State) : Type 0 where
  pub whole : σ.claim job.id ≡ staged job (Whole token)
  pub after : σ' ≡ record σ {
    claim = put_id σ.claim job.id (Stored token now);
    feed = gaining σ.feed job.article.permitted token;
    accepted = σ.accepted ++ (token, job.article.permitted) ∷ [];
  }

-- why an article is given up: it has failed, or its begin is worn
pub data IsHopeless (w : Terms) (σ : State) (job : Job) : Type 0 where
  HasFailedToStore : σ.claim job.id ≡ staged job Failed → IsHopeless w σ job
  CannotBegin : IsWorn w σ job → IsHopeless w σ job

-- Abandon: the id becomes unknown; a size that was begun stays.
pub record Abandons (w : Terms) (σ : State) (job : Job) (σ' : State) : Type 0 where
  pub hopeless : IsHopeless w σ job
  pub after : σ' ≡ record σ { claim = put_id σ.claim job.id Unknown }

-- the world in this state, with the group's writer this far
abbrev pub writer_at : World → State → ℕ → Writer → World
writer_at x σ g writer =
    record { state = σ; work = record x.work { writer = put_at x.work.writer g writer } }

-- the world in which the writer has taken the oldest job
abbrev pub popped : World → ℕ → Job → List Job → World
popped x g job rest =
    record x {
      work = record x.work {
        queue = put_at x.work.queue g rest;
        writer = put_at x.work.writer g (Popped job);
      };
    }

-- the world in which the outcome is in the session's slot
abbrev pub answered : World → ℕ → ℕ → Outcome → World
answered x g s outcome =
    record x {
      work = record x.work {
        slot = put_at x.work.slot s (Some outcome);
        writer = put_at x.work.writer g Idle;
      };
    }

-- what a Write of this group does at this moment: a job of n blocks takes n + 5 that find it
pub data Writes (w : Terms) (x : World) (g now : ℕ) (x' : World) : Type 0 where
  -- it finds no job
  NoJob : x.work.writer g ≡ Idle → x.work.queue g ≡ [] → x' ≡ x → Writes w x g now x'
  -- it takes the oldest job
  Pops : (job : Job) (rest : List Job) → x.work.writer g ≡ Idle → x.work.queue g ≡ job ∷ rest
      → x' ≡ popped x g job rest → Writes w x g now x'
  -- it begins the job
  HasBegun : (job : Job) (token : Token) (σ' : State) → x.work.writer g ≡ Popped job
      → Begins w x.state job token σ' → x' ≡ writer_at x σ' g (Writing job token 0)
      → Writes w x g now x'
  -- it finds that the begin is worn
  FindsWorn : (job : Job) → x.work.writer g ≡ Popped job → IsWorn w x.state job
      → x' ≡ writer_at x x.state g (world.Failed job None) → Writes w x g now x'
  -- it writes the next block
  WritesBlock : (job : Job) (token : Token) (written : ℕ) (failures : ℕ → ℕ)
      → x.work.writer g ≡ Writing job token written → written < job_size job
      → Rises x.work.failures failures
      → x' ≡ with_failures (writer_at x x.state g (Writing job token (written + 1))) failures
      → Writes w x g now x'
  -- the write of the next block fails
  FailsToWrite : (job : Job) (token : Token) (written : ℕ) (failures : ℕ → ℕ) (σ' : State)
      → x.work.writer g ≡ Writing job token written → written < job_size job
      → HasFailedAt token.buffer x.work.failures failures → Fails x.state job token σ'
      → x' ≡ with_failures (writer_at x σ' g (world.Failed job (Some token))) failures
      → Writes w x g now x'
  -- it finishes the job, all of whose blocks are written
  HasStored : (job : Job) (token : Token) (written : ℕ) (σ' : State)
      → x.work.writer g ≡ Writing job token written → written ≡ job_size job
      → Stores x.state job token σ' → x' ≡ writer_at x σ' g (Finished job token)
      → Writes w x g now x'
  -- it settles the job
  Settles : (job : Job) (token : Token) (σ' : State) → x.work.writer g ≡ Finished job token
      → Accepts x.state job token now σ' → x' ≡ writer_at x σ' g (Settled job.session)
      → Writes w x g now x'
  -- it abandons the open write
  Closes : (job : Job) (token : Token) → x.work.writer g ≡ world.Failed job (Some token)
      → x' ≡ writer_at x x.state g (world.Failed job None) → Writes w x g now x'
  -- it gives the article up
  Forgets : (job : Job) (σ' : State) → x.work.writer g ≡ world.Failed job None
      → Abandons w x.state job σ' → x' ≡ writer_at x σ' g (Forgotten job.session)
      → Writes w x g now x'
  -- it puts the outcome in the session's slot
  TellsKept : (s : ℕ) → x.work.writer g ≡ Settled s → x' ≡ answered x g s IsKept
      → Writes w x g now x'
  TellsFailed : (s : ℕ) → x.work.writer g ≡ Forgotten s → x' ≡ answered x g s HasFailed
      → Writes w x g now x'
