-- What was counted of a run, which only the run itself says.
use Rattle.std.specs.Prelude.{◌≡◌, ℕ, List}
use Rattle.live_jobs.specs.Mismatches.{mismatched_receipts_in}
use Rattle.live_jobs.specs.declared.desk.Posts.{Posts}
use Rattle.live_jobs.specs.declared.gather.Totals.{Totals}
use Rattle.live_jobs.specs.declared.outcome.FinishedJob.{FinishedJob}
use Rattle.live_jobs.specs.declared.store_result.KeptJob.{KeptJob}
use Rattle.live_jobs.specs.declared.store_result.StoreResult.{StoreResult}
use Rattle.live_store.specs.declared.record.StorePremises.{Ghosts}
use Rattle.relay_live.specs.declared.running.Counted.{Counted}

-- how many jobs the writers kept
abbrev pub accepted_in : Counted → ℕ
accepted_in counted = counted.accepted

-- how many posts the desk made
abbrev pub posted_in : Counted → Posts
posted_in counted = counted.posted

-- how many answers and jobs are mismatched receipts
abbrev pub mismatched_receipts_of : Counted → ℕ
mismatched_receipts_of counted = counted.mismatched_receipts

-- What was counted are these totals, and what is told of these lists: what each end answered kept,
-- and what each writer told. No public contract cites it.
pub record AreCounts {J : Type 0} {g : Ghosts J} (totals : Totals)
    (kept : List (List (KeptJob J g))) (finished : List (List (FinishedJob (StoreResult J g))))
    (counted : Counted)
    : Type 0 where
  pub accepted : accepted_in counted ≡ totals.accepted
  pub posted : posted_in counted ≡ totals.posted
  pub mismatched_receipts : mismatched_receipts_of counted ≡ mismatched_receipts_in kept finished
