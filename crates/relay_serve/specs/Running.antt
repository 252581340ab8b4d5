-- What a run of a relay in threads comes to (docs/PROTOCOL.md, Threads).
use Rattle.std.specs.Prelude.{◌≡◌, ◌==◌, ◌<◌, ◌^◌}
use Rattle.std.specs.Prelude.{ℕ, List, length, slice_get, Some, if◌then◌else◌}
use Rattle.std.specs.Prelude.{Result, IfErr, IfOk}
use Rattle.article_verdict.specs.Config.{terms_of}
use Rattle.job_queue.specs.declared.parcel.Handed.{Handed}
use Rattle.live_jobs.specs.StoreResults.{FitsJob, is_kept}
use Rattle.live_jobs.specs.Mismatches.{mismatched_receipts_in}
use Rattle.live_jobs.specs.declared.store_result.StoreResult.{StoreResult}
use Rattle.live_jobs.specs.declared.store_result.KeptJob.{KeptJob}
use Rattle.live_jobs.specs.Gathered.{AllTold, NoneElse, kept_by_all}
use Rattle.live_jobs.specs.declared.outcome.FinishedJob.{FinishedJob}
use Rattle.live_store.specs.declared.record.StorePremises.{Ghosts}
use Rattle.relay_conf.specs.declared.settings.Config.{Config}
use Rattle.live_jobs.specs.Desks.{posts_in}
use Rattle.relay_live.specs.Counts.{accepted_in, posted_in, mismatched_receipts_of}
use Rattle.relay_live.specs.Sessions.{Accounted, HasLists}
use Rattle.relay_live.specs.declared.running.Counted.{Counted}
use Rattle.relay_live.specs.declared.running.LiveError.{LiveError}
use Rattle.relay_live.specs.declared.running.LiveError.TheVariants as errors
use Rattle.relay_report.specs.declared.totals.Totals.{Totals}
use Rattle.relay_report.specs.declared.fault.ServeError.{ServeError}
use Rattle.relay_report.specs.declared.fault.ServeError.TheVariants as faults
use Rattle.buffer_files.specs.Faults.{IsRunFault}

-- why its threads ended before they had served: memory was refused, or no thread was to be had
abbrev pub ended_as : LiveError → ServeError
ended_as errors.Memory = faults.Memory
ended_as errors.NoThread = faults.NoThread

-- how many writers a relay of a configuration has: one for each group, and one where there is none
abbrev pub channel_count : Config → ℕ
channel_count config =
    let groups = length config.buffers.groups.items in if groups == 0 then 1 else groups

-- What the end of this number has handed over and answered kept is what the sessions of its peer
-- came to, one after the other, by the terms of the configuration: over any stores by the form of
-- what they said, over honest ones by all that the definitions say.
abbrev pub HasServed : {J : Type 0} {g : Ghosts J} → Config → (end peer : ℕ)
    → List (List Handed) → List (KeptJob J g) → Type 0
HasServed {J} {g} config end peer jobs kept =
    (count : ℕ) × Accounted g.trusted (terms_of config) end peer count jobs kept

-- What was counted is of a run of these ends, each by the number of its peer: `finished` is what
-- the writer of each group told, `hands` what each end handed over to each group, `kept` what each
-- end answered kept. None of them is missing; each job was told once, in order, with an outcome
-- that fits it, and no other job was.
pub record Ran {J : Type 0} (g : Ghosts J) (config : Config) (peers : List ℕ) (counted : Counted)
    : Type 0 where
  pub finished : List (List (FinishedJob (StoreResult J g)))
  pub hands : List (List (List Handed))
  pub kept : List (List (KeptJob J g))
  pub writers : length finished ≡ channel_count config
  pub ends : (length hands ≡ length peers) × (length kept ≡ length peers)
  pub lists : HasLists (channel_count config) hands
  pub told : AllTold (FitsJob g.holds) finished hands
  pub none : NoneElse (length peers) finished
  pub served : (end peer : ℕ) (jobs : List (List Handed)) (answers : List (KeptJob J g))
      → slice_get peers end ≡ Some peer → slice_get hands end ≡ Some jobs
      → slice_get kept end ≡ Some answers → HasServed config end peer jobs answers
  pub accepted : accepted_in counted ≡ kept_by_all is_kept finished
  pub posted : posts_in (posted_in counted) ≡ accepted_in counted
  pub mismatched_receipts : mismatched_receipts_of counted ≡ mismatched_receipts_in kept finished

-- what was counted is of a run of these ends, or an error ended it
pub record RunGives {J : Type 0} (g : Ghosts J) (config : Config) (peers : List ℕ)
    (result : Result Counted ServeError) : Type 0 where
  pub ran : IfOk result (Ran g config peers)
  pub fault : IfErr result IsRunFault

-- A relay can be run: the ledger has a part for each writer, all of these parts are at hand, and
-- nothing is counted by them yet; there is a slot for each peer source, and of these not too many.
pub record CanRun (writers total parts amount slots sources : ℕ) : Type 0 where
  pub ledger : total ≡ writers
  pub at_hand : parts ≡ writers
  pub uncounted : amount ≡ 0
  pub slot_each : slots ≡ sources
  pub few : sources < 2 ^ 62

-- the numbers of the totals are those that were counted
pub record CountsOf (totals : Totals) (counted : Counted) : Type 0 where
  pub accepted : totals.accepted ≡ accepted_in counted
  pub posted : totals.posted ≡ posts_in (posted_in counted)
  pub mismatched_receipts : totals.mismatched_receipts ≡ mismatched_receipts_of counted
