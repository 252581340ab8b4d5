-- What a session remarks of the articles that it was sent, beside its replies.
use Rattle.std.specs.Prelude.{◌≡◌, ℕ, Bool, true, false, List, length, IfSome, Option, None, Some}
use Rattle.std.specs.Option.{IsSomeAnd}
use Rattle.article_verdict.specs.declared.reasons.Reason.{Reason}
use Rattle.buffer_group.specs.declared.job.Job.{Job}
use Rattle.id_history.specs.declared.claims.Take.TheVariants as takes
use Rattle.live_jobs.specs.declared.channel.JobChannel.{JobChannel}
use Rattle.live_session.specs.Turns.{DidStep, HasHeard}
use Rattle.live_session.specs.declared.live.LiveSession.{LiveSession}
use Rattle.live_session.specs.declared.live.Turned.{Turned}
use Rattle.live_session.specs.declared.remarks.Remark.{Remark}
use Rattle.live_session.specs.declared.remarks.Remark.TheVariants as remarks
use Rattle.live_session.specs.declared.remarks.Remarks.{Remarks}
use Rattle.live_session.specs.declared.remarks.Taken.{Taken}
use Rattle.live_store.specs.declared.record.StorePremises.{Ghosts}
use Rattle.peer_session.specs.declared.steps.Answer.{Answer}
use Rattle.peer_session.specs.declared.steps.Answer.TheVariants as answers
use Rattle.peer_session.specs.declared.steps.Outcome.TheVariants as outcomes
use Rattle.peer_session.specs.declared.steps.Step.{Step}
use Rattle.peer_session.specs.declared.steps.Step.TheVariants as steps

-- somebody is told of articles that are stored
abbrev pub wants_in : Remarks → Bool
wants_in one = one.wants_stored

-- what will be told of the article that was handed over last, if anything
abbrev pub taken_in : Remarks → Option Taken
taken_in one = one.taken

-- what was remarked in the turn
abbrev pub remark_in : Remarks → Option Remark
remark_in one = one.remark

-- what is told of an article is that of the job's: its message-id, the octets that are stored, and
-- the feeds that may have it
pub record IsOfJob (job : Job) (taken : Taken) : Type 0 where
  pub id : taken.id ≡ job.id
  pub octets : taken.octets ≡ length job.article.text
  pub feeds : taken.feeds.items ≡ job.article.permitted.items

-- the job in hand is to be handed over: what will be told is of it, and only where that is wanted
pub record TakesUp (old : Remarks) (job : Option Job) (new : Remarks) : Type 0 where
  pub taken : IfSome new.taken
      (λ taken. (old.wants_stored ≡ true) × IsSomeAnd job (λ one. IsOfJob one taken))
  pub wants : new.wants_stored ≡ old.wants_stored
  pub remark : new.remark ≡ old.remark

-- an article was refused, once that is remembered
abbrev pub refused_remark : List ℕ → Reason → Answer → Option Remark
refused_remark id reason answers.Nothing = Some (remarks.Refused id reason)
refused_remark id reason other = None

-- an accepted article isn't stored, since one of its id is known
abbrev pub known_remark : List ℕ → Answer → Option Remark
known_remark id (answers.Take takes.Seen) = Some (remarks.Known id)
known_remark id other = None

-- the article that was handed over is stored, where somebody is told of that
abbrev pub stored_remark : (wants : Bool) → Option Taken → Answer → Option Remark
stored_remark true taken (answers.Slot (Some outcomes.Kept)) = Some (remarks.Stored taken)
stored_remark wants taken other = None

-- what is remarked of a step that is answered so
abbrev pub remark_of : (wants : Bool) → Option Taken → Step → Answer → Option Remark
remark_of wants taken (steps.Refuse id reason) answer = refused_remark id reason answer
remark_of wants taken (steps.Take id) answer = known_remark id answer
remark_of wants taken steps.Slot answer = stored_remark wants taken answer
remark_of wants taken other answer = None

-- what is left of what was taken up once this is remarked: nothing where it was told, else all
abbrev pub taken_left : Option Taken → Option Remark → Option Taken
taken_left taken (Some (remarks.Stored told)) = None
taken_left taken other = taken

-- by this nothing of what was taken up is told, whatever that is
abbrev pub TellsNoTaken : Option Remark → Type 0
TellsNoTaken remark = (taken : Option Taken) → taken_left taken remark ≡ taken

-- the article was known
abbrev pub is_known : Option Remark → Bool
is_known (Some (remarks.Known id)) = true
is_known other = false

-- before a step is done: a job that it hands over is taken up
abbrev pub Prepares : (old : Remarks) → Step → Option Job → (new : Remarks) → Type 0
Prepares old (steps.Push group) job new = TakesUp old job new
Prepares old other job new = new ≡ old

-- The step was done, and the session heard what it is answered; what is remarked is of this step
-- and this answer, and of an article that is stored what was taken up of it, which stays until it
-- is told.
pub record HasRemarked {J : Type 0} {g : Ghosts J} (channels : List JobChannel) (step : Step)
    (old : LiveSession J g) (turned : Turned) (new : LiveSession J g) (before after : Remarks)
    : Type 0 where
  pub answer : Answer
  pub between : LiveSession J g
  pub mid : Remarks
  pub prepared : Prepares before step old.session.hand mid
  pub did : DidStep channels step old answer between
  pub heard : HasHeard between answer turned new
  pub remark : after.remark ≡ remark_of mid.wants_stored mid.taken step answer
  pub left : after.taken ≡ taken_left mid.taken after.remark
  pub wants : after.wants_stored ≡ mid.wants_stored

-- the same of each step but one that reads a block, of which nothing is remarked
abbrev pub RemarksOn : {J : Type 0} {g : Ghosts J} → List JobChannel → Step
    → (old : LiveSession J g) → Turned → (new : LiveSession J g) → (before after : Remarks)
    → Type 0
RemarksOn channels (steps.Read token k) old turned new before after = after ≡ before
RemarksOn channels step old turned new before after =
    HasRemarked channels step old turned new before after
