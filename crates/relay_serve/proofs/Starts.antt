-- Whether a relay that isn't run couldn't start, and why not.
use Rattle.std.proofs.Common.{inl, inr, List, ℕ, subst, sym}
use Rattle.std.specs.Prelude.{Err, IfErr, IfOk, Ok, Result}
use Rattle.std.specs.IoError.{error_kind}
use Rattle.cyc_block.specs.declared.store.BlockStore.{Ghosts}
use Rattle.relay_folder.specs.declared.origin.Origin.{Origin}
use Rattle.relay_folder.specs.declared.origin.Origin.TheVariants as origins
use Rattle.relay_conf.specs.declared.settings.Buffers.{Buffers}
use Rattle.relay_conf.specs.declared.settings.Config.{Config}
use Rattle.relay_core.specs.declared.stopped.NotStarted.{NotStarted}
use Rattle.relay_core.specs.declared.stopped.NotStarted.TheVariants as nots
use Rattle.relay_live.specs.declared.running.Counted.{Counted}
use Rattle.relay_live.specs.declared.shared.Shared.{Shared}
use Rattle.live_store.specs.declared.record.StorePremises as store_premises
use Rattle.relay_report.specs.declared.fault.ServeError.{ServeError}
use Rattle.relay_report.specs.declared.fault.ServeError.TheVariants as faults
use Rattle.buffer_files.specs.Files.{IsFaultAt}
use Rattle.relay_serve.specs.Lives.{Finishes, IsNoStart, IsUnbegun, RunsRelay, StartsAsTold}
use Rattle.relay_serve.specs.RunTotals.{totals_in}
use Rattle.relay_serve.specs.Running.{CountsOf, Ran}
use Rattle.relay_serve.specs.declared.running.Finished.{Finished}
use Rattle.relay_startup.proofs.Faults.{refusal_stays, relay_serves, run_serves, stop_stays}
use Rattle.relay_startup.proofs.Faults.{unbegun_runs}
use Rattle.relay_startup.specs.Starting.{IsUnstartedAs}
use Rattle.buffer_files.specs.Faults.{IsRelayFault, IsRunFault, IsServeFault, IsStopFault}
use Rattle.buffer_files.specs.Faults.{unbegun_as}
use Rattle.post_history.specs.declared.book.Naming as naming

-- What ends a run isn't that it can't start,
pub run_other : (error : ServeError) → IsRunFault error → IsNoStart error
run_other error (inl memory) = subst IsNoStart (sym memory) tt
run_other error (inr (inl unseeded)) = subst IsNoStart (sym unseeded) tt
run_other error (inr (inr threads)) = subst IsNoStart (sym threads) tt

-- nor is that it couldn't be stopped,
stop_other : (error : ServeError) → IsStopFault error → IsNoStart error
stop_other (faults.Start fault) e = absurd (cc e)
stop_other (faults.File lost) e = tt
stop_other (faults.Port lost) e = tt
stop_other faults.Control e = tt
stop_other faults.Unseeded e = tt
stop_other faults.Memory e = tt
stop_other faults.NoThread e = tt
stop_other (faults.Stop fault) e = tt
stop_other faults.Unwritten e = tt

-- nor that a file can't be had.
pub file_other : (settings : Buffers) (number : ℕ) (error : ServeError)
    → IsFaultAt settings number error → IsNoStart error
file_other settings number (faults.Start fault) e = absurd (cc e)
file_other settings number (faults.File lost) e = tt
file_other settings number (faults.Port lost) e = tt
file_other settings number faults.Control e = tt
file_other settings number faults.Unseeded e = tt
file_other settings number faults.Memory e = tt
file_other settings number faults.NoThread e = tt
file_other settings number (faults.Stop fault) e = tt
file_other settings number faults.Unwritten e = tt

-- Another error says nothing of a start.
other_told : {S : Type 0} (g : Ghosts S) (config : Config) (stores : List S) (origin : Origin)
    (error : ServeError) → IsNoStart error → StartsAsTold g config stores origin error
other_told g config stores origins.Formatted error other = other
other_told g config stores (origins.Stopped text) (faults.Start fault) other = absurd other
other_told g config stores (origins.Stopped text) (faults.File lost) other = tt
other_told g config stores (origins.Stopped text) (faults.Port lost) other = tt
other_told g config stores (origins.Stopped text) faults.Control other = tt
other_told g config stores (origins.Stopped text) faults.Unseeded other = tt
other_told g config stores (origins.Stopped text) faults.Memory other = tt
other_told g config stores (origins.Stopped text) faults.NoThread other = tt
other_told g config stores (origins.Stopped text) (faults.Stop fault) other = tt
other_told g config stores (origins.Stopped text) faults.Unwritten other = tt

-- So what ends a run says nothing of a start,
run_told : {S : Type 0} (g : Ghosts S) (config : Config) (stores : List S) (origin : Origin)
    (error : ServeError) → IsRunFault error → StartsAsTold g config stores origin error
run_told g config stores origin error fault =
    other_told g config stores origin error (run_other error fault)

-- nor does that it couldn't be stopped.
stop_told : {S : Type 0} (g : Ghosts S) (config : Config) (stores : List S) (origin : Origin)
    (error : ServeError) → IsStopFault error → StartsAsTold g config stores origin error
stop_told g config stores origin error fault =
    other_told g config stores origin error (stop_other error fault)

-- what is said of a relay that isn't begun from nothing
pub ruleset begin_ends = (run_serves, run_other, file_other)

-- and so is why it isn't started.
unstarted_stays : {S : Type 0} (g : Ghosts S) (config : Config) (stores : List S)
    (refused : NotStarted S) (error : ServeError) → IsUnstartedAs config.buffers refused error
    → IsRelayFault g config stores error
unstarted_stays g config stores (nots.Host why back) error e =
    subst (IsRelayFault g config stores) (sym e)
    (run_serves g config stores (unbegun_as (error_kind why)) (unbegun_runs (error_kind why)))
unstarted_stays g config stores (nots.Refused refused) error e =
    refusal_stays g config stores refused.buffer refused.error error e

-- So is why it isn't begun,
unbegun_fails : {S : Type 0} (g : Ghosts S) (config : Config) (stores : List S)
    (origin : Origin) (error : ServeError) → IsUnbegun g config stores origin error
    → IsRelayFault g config stores error
unbegun_fails g config stores origins.Formatted error unbegun = unbegun.1
unbegun_fails g config stores (origins.Stopped text) error unbegun =
    unstarted_stays g config stores unbegun.refused error unbegun.told

-- which is told where it is that it can't start.
unbegun_told : {S : Type 0} (g : Ghosts S) (config : Config) (stores : List S)
    (origin : Origin) (error : ServeError) → IsUnbegun g config stores origin error
    → StartsAsTold g config stores origin error
unbegun_told g config stores origins.Formatted error unbegun = unbegun.0
unbegun_told g config stores (origins.Stopped text) (faults.Start fault) unbegun = unbegun
unbegun_told g config stores (origins.Stopped text) (faults.File lost) unbegun = tt
unbegun_told g config stores (origins.Stopped text) (faults.Port lost) unbegun = tt
unbegun_told g config stores (origins.Stopped text) faults.Control unbegun = tt
unbegun_told g config stores (origins.Stopped text) faults.Unseeded unbegun = tt
unbegun_told g config stores (origins.Stopped text) faults.Memory unbegun = tt
unbegun_told g config stores (origins.Stopped text) faults.NoThread unbegun = tt
unbegun_told g config stores (origins.Stopped text) (faults.Stop fault) unbegun = tt
unbegun_told g config stores (origins.Stopped text) faults.Unwritten unbegun = tt

-- A relay that isn't run comes to nothing else: where an error ended it,
pub ended_gives : {S J : Type 0} (g : Ghosts S) (j : store_premises.Ghosts J) (config : Config)
    (stores : List S) (origin : Origin) (peers : List ℕ) (error : ServeError)
    → IsRunFault error → RunsRelay g j config stores origin peers (Err error)
ended_gives g j config stores origin peers error fault = record {
  totals = tt;
  counted = tt;
  ran = tt;
  start = run_told g config stores origin error fault;
  fault = run_serves g config stores error fault;
}

-- or where it isn't begun.
pub unbegun_gives : {S J : Type 0} (g : Ghosts S) (j : store_premises.Ghosts J) (config : Config)
    (stores : List S) (origin : Origin) (peers : List ℕ) (error : ServeError)
    → IsUnbegun g config stores origin error
    → RunsRelay g j config stores origin peers (Err error)
unbegun_gives g j config stores origin peers error unbegun = record {
  totals = tt;
  counted = tt;
  ran = tt;
  start = unbegun_told g config stores origin error unbegun;
  fault = unbegun_fails g config stores origin error unbegun;
}

-- One that was run and stopped comes to what was counted, or why it isn't stopped.
pub finished_gives : {S J L : Type 0} {s : Ghosts S}
    {j : store_premises.Ghosts J} {n : naming.Ghosts J}
    (config : Config) (shared : Shared S J L s j n) (stores : List S) (origin : Origin)
    (peers : List ℕ) (counts : Counted) (result : Result (Finished S) ServeError)
    → Ran j config peers counts → Finishes config shared counts result
    → RunsRelay s j config stores origin peers result
finished_gives {S} {J} {L} {s} {j} config shared stores origin peers counts (Ok run) ran finishes =
    let same = sym finishes.counted in
    record {
      totals = finishes.totals;
      counted = subst (λ (n : Counted). IfOk (totals_in run.totals) (λ totals. CountsOf totals n))
          same
          finishes.numbers;
      ran = subst (Ran j config peers) same ran;
      start = tt;
      fault = tt;
    }
finished_gives {S} {J} {L} {s} {j} config shared stores origin peers counts (Err error) ran
    finishes =
    record {
      totals = tt;
      counted = tt;
      ran = tt;
      start = stop_told s config stores origin error finishes.fault;
      fault = stop_stays s config stores error finishes.fault;
    }

-- Why one isn't run names a file of the configuration, where it names one.
pub unrun_serves : {S J : Type 0} {s : Ghosts S} {j : store_premises.Ghosts J} {config : Config}
    {stores : List S} {origin : Origin} {peers : List ℕ} (result : Result (Finished S) ServeError)
    → RunsRelay s j config stores origin peers result → IfErr result (IsServeFault config)
unrun_serves (Ok run) runs = tt
unrun_serves {S} {J} {s} {j} {config} {stores} {origin} {peers} (Err error) runs =
    relay_serves s config stores error runs.fault
