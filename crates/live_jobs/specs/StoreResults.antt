-- What became of a job, and which of it fits the job.
use Rattle.std.specs.Prelude.{◌≡◌, ℕ, Bool, true, false, None, IsSomeAnd}
use Rattle.cyc_buffer.specs.declared.answers.Fault.{Fault}
use Rattle.job_queue.specs.declared.parcel.Handed.{Handed}
use Rattle.live_jobs.specs.declared.store_result.StoreResult.{StoreResult}
use Rattle.live_jobs.specs.declared.store_result.StoreResult.TheVariants as store_results
use Rattle.live_jobs.specs.declared.store_result.JobAnswer.{JobAnswer}
use Rattle.live_jobs.specs.Forgotten.{IsForgotten}
use Rattle.live_jobs.specs.Posted.{IsPostOf}
use Rattle.live_jobs.specs.declared.desk.both.Posted.{Posted}
use Rattle.live_jobs.specs.declared.forgetting.Forgotten.{Forgotten}
use Rattle.live_store.specs.declared.record.StorePremises.{Ghosts}
use Rattle.live_store.specs.Stores.{IsTextOf, IsStoreFault, receipt_token}
use Rattle.live_store.specs.declared.stored.Receipt.{Receipt}

-- the article is kept
abbrev pub is_kept : {J : Type 0} {g : Ghosts J} → StoreResult J g → Bool
is_kept (store_results.Kept receipt posted) = true
is_kept (store_results.Failed fault forgotten) = false
is_kept (store_results.Conflict forgotten) = false

-- the fault is one of the storing of the job's text, of a buffer of its group
pub record IsJobFault (holds : ℕ → ℕ → Bool) (handed : Handed) (fault : Fault) : Type 0 where
  pub stores : IsStoreFault handed.job.article.text fault
  pub held : holds handed.job.article.group fault.buffer ≡ true

-- the receipt's record has the text of the job, its class and its length; and the article of the
-- job's message-id was settled for the job's session, under the receipt's token, and posted to the
-- feeds that the job is permitted for
pub record IsKeptJob {J : Type 0} {g : Ghosts J} (handed : Handed) (receipt : Receipt J g)
    (post : Posted)
    : Type 0 where
  pub text : IsTextOf handed.job.article.class handed.job.article.text receipt.shown
  pub posted : IsPostOf handed.job.id handed.job.session (receipt_token receipt)
      handed.job.article.permitted.items post

-- the article of the job's message-id was given up for the job's session
abbrev pub IsGivenUp : Handed → Forgotten → Type 0
IsGivenUp handed forgotten = IsForgotten handed.job.id handed.job.session forgotten

-- the job is stored, settled and posted; or its article was given up, and where there is a fault it
-- is one of the storing of the text, of a buffer of the job's group
abbrev pub FitsJob : {J : Type 0} {g : Ghosts J} → (holds : ℕ → ℕ → Bool) → StoreResult J g → Handed
    → Type 0
FitsJob holds (store_results.Kept receipt posted) handed = IsKeptJob handed receipt posted
FitsJob holds (store_results.Failed fault forgotten) handed =
    IsJobFault holds handed fault × IsGivenUp handed forgotten
FitsJob holds (store_results.Conflict forgotten) handed = IsGivenUp handed forgotten

-- what a store result tells: the same receipt, or that the job failed
abbrev pub IsAnswerOf : {J : Type 0} {g : Ghosts J} → StoreResult J g → JobAnswer J g → Type 0
IsAnswerOf (store_results.Kept one posted) answer = IsSomeAnd answer.receipt
    (λ other. (receipt_token one ≡ receipt_token other) × (one.shown ≡ other.shown))
IsAnswerOf (store_results.Failed fault forgotten) answer = answer.receipt ≡ None
IsAnswerOf (store_results.Conflict forgotten) answer = answer.receipt ≡ None
