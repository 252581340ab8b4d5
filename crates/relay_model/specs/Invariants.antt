-- What holds of every world that a run from the beginning leads to, of the definitions alone:
-- relay_facts proves that each step keeps it.
use Rattle.std.specs.Prelude.{true, false, ◌≡◌, ℕ, ◌+◌, ◌≤◌, ◌<◌, ◌^◌, Bool, List, length, All}
use Rattle.std.specs.Prelude.{count_by, bytes_eq, slice_get, Option, None, Some, if◌then◌else◌}
use Rattle.news_terms.specs.Article.{Article, IsArticleText}
use Rattle.news_terms.specs.Courses.{IsLaid}
use Rattle.news_terms.specs.Fronts.{FitsGroup}
use Rattle.news_terms.specs.Places.{Extent, Group, size_of}
use Rattle.relay_model.specs.Awaited.{IsAwaited}
use Rattle.relay_model.specs.Claims.{Accepted, Storing}
use Rattle.relay_model.specs.Claims.{Stage, Waiting, Begun, Whole}
use Rattle.relay_model.specs.Claims as claims
use Rattle.relay_model.specs.Counted.{IsCounted}
use Rattle.relay_model.specs.OnRecord.{IsOnRecord}
use Rattle.relay_model.specs.Run.{is_running, is_taken}
use Rattle.relay_model.specs.State.{State, Session, Kept, Job}
use Rattle.relay_model.specs.State as phases
use Rattle.relay_model.specs.Terms.{Terms}
use Rattle.relay_model.specs.World.{World, Writer, Idle, Popped, Writing, Finished, Failed, Settled}
use Rattle.relay_model.specs.World.{Forgotten}
use Rattle.relay_model.specs.Writers.{staged, job_size, IsHopeless}

-- the job is of this id
abbrev pub is_of : List ℕ → Job → Bool
is_of id job = bytes_eq id job.id

-- one where the job that is there is of this id, else none
abbrev pub in_hand : List ℕ → Option Job → ℕ
in_hand id None = 0
in_hand id (Some job) = if is_of id job then 1 else 0

-- the same of the hand of the session that is there
abbrev pub in_hand_of : List ℕ → Option Session → ℕ
in_hand_of id None = 0
in_hand_of id (Some session) = in_hand id session.hand

-- the job that a writer has
abbrev pub job_at : Writer → Option Job
job_at Idle = None
job_at (Popped job) = Some job
job_at (Writing job token written) = Some job
job_at (Finished job token) = Some job
job_at (Failed job open_one) = Some job
job_at (Settled session) = None
job_at (Forgotten session) = None

-- in how many places the job of an id is that is stored for a session, by the writer of a group
abbrev pub places_of : World → List ℕ → (s g : ℕ) → ℕ
places_of x id s g =
    in_hand_of id (x.state.session s) + count_by (is_of id) (x.work.queue g)
    + in_hand id (job_at (x.work.writer g))

-- a session in this phase may have a job in its hand
abbrev pub may_carry : phases.Phase → Bool
may_carry phases.Ready = false
may_carry (phases.AwaitsBlock transfer id) = false
may_carry (phases.Holds id article) = false
may_carry (phases.Waits transfer id) = true
may_carry (phases.Fetches asked token had) = false
may_carry phases.Leaving = true
may_carry phases.Ended = false

-- the job is the session's, and its id is being stored for it and waits
pub record WaitsAs (σ : State) (s : ℕ) (job : Job) : Type 0 where
  pub of_session : job.session ≡ s
  pub claimed : σ.claim job.id ≡ staged job Waiting

-- what the phase of a group's writer says of the claim on its job's id
abbrev pub IsAt : Terms → State → ℕ → Writer → Type 0
IsAt w σ g Idle = Unit {0}
IsAt w σ g (Popped job) = (job.article.group ≡ g) × (σ.claim job.id ≡ staged job Waiting)
IsAt w σ g (Writing job token written) =
    (job.article.group ≡ g) × (σ.claim job.id ≡ staged job (Begun token))
    × (written ≤ job_size job) × (token.length ≡ length job.article.text)
IsAt w σ g (Finished job token) =
    (job.article.group ≡ g) × (σ.claim job.id ≡ staged job (Whole token))
IsAt w σ g (Failed job (Some token)) =
    (job.article.group ≡ g) × (σ.claim job.id ≡ staged job claims.Failed)
IsAt w σ g (Failed job None) = (job.article.group ≡ g) × IsHopeless w σ job
IsAt w σ g (Settled session) = Unit {0}
IsAt w σ g (Forgotten session) = Unit {0}

-- each id that is being stored is in exactly one place: its session's hand, a queue, a writer
pub record IsPlaced (w : Terms) (x : World) : Type 0 where
  pub one : (id : List ℕ) (s : ℕ) (article : Accepted) (stage : Stage)
      → x.state.claim id ≡ Storing s article stage → places_of x id s article.group ≡ 1
  pub hand : (s : ℕ) (session : Session) (job : Job) → x.state.session s ≡ Some session
      → session.hand ≡ Some job → WaitsAs x.state s job
  pub empty : (s : ℕ) (session : Session) → x.state.session s ≡ Some session
      → may_carry session.phase ≡ false → session.hand ≡ None
  pub queue : (g : ℕ) → All (λ job. (job.article.group ≡ g) × WaitsAs x.state job.session job)
      (x.work.queue g)
  pub writer : (g : ℕ) → IsAt w x.state g (x.work.writer g)

-- what an accepted article is: it goes to a group that is there, takes a block at least, fits each
-- buffer of its group, and its text is an article
pub record IsSoundArticle (w : Terms) (accepted : Accepted) : Type 0 where
  pub group : Group
  pub there : slice_get w.groups accepted.group ≡ Some group
  pub some : 1 ≤ size_of (length accepted.text)
  pub fits : FitsGroup group (size_of (length accepted.text))
  pub class : accepted.class < 2 ^ 8
  pub read : Article
  pub is_read : IsArticleText accepted.text read

-- the article that a session in this phase holds
abbrev pub held : phases.Phase → Option Accepted
held phases.Ready = None
held (phases.AwaitsBlock transfer id) = None
held (phases.Holds id article) = Some article
held (phases.Waits transfer id) = None
held (phases.Fetches asked token had) = None
held phases.Leaving = None
held phases.Ended = None

-- a kept text is an article, as long as its token says
pub record IsKeptRight (one : Kept) : Type 0 where
  pub read : Article
  pub is_read : IsArticleText one.text read
  pub length_of : one.token.length ≡ length one.text

-- all articles begun fit and lie where they may, and all that are stored, held or kept are sound
pub record IsSized (w : Terms) (σ : State) : Type 0 where
  pub begun : (g : ℕ) (group : Group) → slice_get w.groups g ≡ Some group
      → All (λ (one : Extent). (1 ≤ one.size) × FitsGroup group one.size) (σ.begun g).articles
  pub laid : (g : ℕ) (group : Group) → slice_get w.groups g ≡ Some group
      → IsLaid group (σ.begun g)
  pub storing : (id : List ℕ) (s : ℕ) (article : Accepted) (stage : Stage)
      → σ.claim id ≡ Storing s article stage → IsSoundArticle w article
  pub held_one : (s : ℕ) (session : Session) (article : Accepted) → σ.session s ≡ Some session
      → held session.phase ≡ Some article → IsSoundArticle w article
  pub kept : All IsKeptRight σ.kept

-- a number above every earlier one has no session, and each session that runs is of a peer
pub record IsNumbered (w : Terms) (σ : State) : Type 0 where
  pub unopened : (s : ℕ) → is_taken σ.newest s ≡ false → σ.session s ≡ None
  pub peer : (s : ℕ) (session : Session) → σ.session s ≡ Some session
      → is_running session.phase ≡ true → session.peer < length w.peers

-- what holds of every world of a run from the empty world
pub record IsWell (w : Terms) (x : World) : Type 0 where
  pub numbered : IsNumbered w x.state
  pub placed : IsPlaced w x
  pub sized : IsSized w x.state
  pub awaited : IsAwaited x
  pub counted : IsCounted w x
  pub on_record : IsOnRecord w x.state
