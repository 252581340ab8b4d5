-- How a relay is started and stopped from one life to the next, and why it isn't (docs/PROTOCOL.md,
-- Clean stop and start).
use Rattle.std.specs.Prelude.{◌≡◌, ℕ, List, [], length}
use Rattle.std.specs.Prelude.{Result, IfErr, IfOk}
use Rattle.std.specs.IoError.{error_kind}
use Rattle.cyc_block.specs.declared.store.BlockStore as blocks
use Rattle.relay_folder.specs.declared.origin.Origin.{Origin}
use Rattle.relay_folder.specs.declared.origin.Origin.TheVariants as origins
use Rattle.live_store.specs.declared.record.StorePremises as store_premises
use Rattle.relay_conf.specs.declared.settings.Buffers.{Buffers}
use Rattle.relay_conf.specs.declared.settings.Config.{Config}
use Rattle.relay_core.specs.declared.stopped.NotStarted.{NotStarted}
use Rattle.relay_core.specs.declared.stopped.NotStarted.TheVariants as nots
use Rattle.relay_live.specs.Making.{buffers_in}
use Rattle.relay_live.specs.Starting.{IsNotStarted, WereStopped}
use Rattle.relay_live.specs.Stopping.{IsUnshut}
use Rattle.relay_live.specs.declared.running.Counted.{Counted}
use Rattle.relay_live.specs.declared.shared.Shared.{Shared}
use Rattle.relay_live.specs.declared.shared.Unshut.{Unshut}
use Rattle.relay_live.specs.declared.shared.Unshut.TheVariants as unshut
use Rattle.relay_report.specs.Serve.{AreOf}
use Rattle.relay_report.specs.declared.fault.ServeError.{ServeError}
use Rattle.relay_report.specs.declared.fault.ServeError.TheVariants as faults
use Rattle.relay_report.specs.declared.keeping.StopFault.TheVariants as stops
use Rattle.relay_serve.specs.RunTotals.{totals_in}
use Rattle.relay_serve.specs.Running.{CountsOf, Ran}
use Rattle.relay_serve.specs.declared.running.Finished.{Finished}
use Rattle.buffer_files.specs.Faults.{IsRelayFault, IsStopFault, unbegun_as}
use Rattle.relay_startup.specs.Starting.{IsUnstartedAs}
use Rattle.post_history.specs.declared.book.Naming as naming

-- where a relay is to begin from what it was stopped with, each store holds its buffer as stopped
abbrev pub AreOfOrigin : {S : Type 0} → blocks.Ghosts S → Origin → (stores : List S) → Type 0
AreOfOrigin g origins.Formatted stores = Unit {0}
AreOfOrigin g (origins.Stopped text) stores = WereStopped g stores

-- the text of the history that a relay begins from; none where it begins from nothing
abbrev pub text_in : Origin → List ℕ
text_in origins.Formatted = []
text_in (origins.Stopped text) = text.items

-- The error tells why a relay isn't started from these stores and this history: for the first
-- reason that there is.
pub record TellsStart {S : Type 0} (g : blocks.Ghosts S) (config : Config) (stores : List S)
    (text : List ℕ) (error : ServeError) : Type 0 where
  pub refused : NotStarted S
  pub rightly : IsNotStarted g config stores text refused
  pub told : IsUnstartedAs config.buffers refused error

-- the error isn't that a relay can't start
abbrev pub IsNoStart : ServeError → Type 0
IsNoStart (faults.Start fault) = ⊥
IsNoStart error = Unit {0}

-- where a relay can't start that is why; one that is formatted always can
abbrev pub StartsAsTold : {S : Type 0} → blocks.Ghosts S → Config → (stores : List S) → Origin
    → ServeError → Type 0
StartsAsTold g config stores origins.Formatted error = IsNoStart error
StartsAsTold g config stores (origins.Stopped text) (faults.Start fault) =
    TellsStart g config stores text.items (faults.Start fault)
StartsAsTold g config stores (origins.Stopped text) error = Unit {0}

-- Why a relay isn't begun over these stores: from nothing, for another reason than a start; from
-- what it was stopped with, for the first reason that there is.
abbrev pub IsUnbegun : {S : Type 0} → blocks.Ghosts S → Config → (stores : List S) → Origin
    → ServeError → Type 0
IsUnbegun g config stores origins.Formatted error =
    IsNoStart error × IsRelayFault g config stores error
IsUnbegun g config stores (origins.Stopped text) error =
    TellsStart g config stores text.items error

-- why a relay isn't stopped so that it can start again is told so
abbrev pub stopped_as : {S J L : Type 0} {s : blocks.Ghosts S}
    {j : store_premises.Ghosts J} {n : naming.Ghosts J}
    → Unshut S J L s j n → ServeError
stopped_as (unshut.NotIdle shared) = faults.Stop stops.NotIdle
stopped_as (unshut.Memory shared want) = faults.Memory
stopped_as (unshut.Device number stores) = faults.Stop stops.Device

-- the error tells why this relay isn't stopped: for the first reason that there is
pub record TellsStop {S J L : Type 0} {s : blocks.Ghosts S}
    {j : store_premises.Ghosts J} {n : naming.Ghosts J}
    (shared : Shared S J L s j n) (error : ServeError) : Type 0 where
  pub refused : Unshut S J L s j n
  pub rightly : IsUnshut shared refused
  pub told : error ≡ stopped_as refused

-- A relay whose threads have ended, and of which this was counted, is stopped: what was counted,
-- totals of its configuration with the same numbers, and a store of each buffer; or why it isn't
-- stopped, for the first reason that there is.
pub record StopsCounted {S J L : Type 0} {s : blocks.Ghosts S}
    {j : store_premises.Ghosts J} {n : naming.Ghosts J}
    (config : Config) (shared : Shared S J L s j n) (counts : Counted)
    (result : Result (Finished S) (Unshut S J L s j n)) : Type 0 where
  pub counted : IfOk result (λ run. run.counted ≡ counts)
  pub totals : IfOk result (λ run. IfOk (totals_in run.totals) (AreOf config))
  pub numbers : IfOk result (λ run. IfOk (totals_in run.totals) (λ totals. CountsOf totals counts))
  pub stores : IfOk result (λ run. length run.stopped.stores.items ≡ buffers_in shared)
  pub refused : IfErr result (IsUnshut shared)

-- What a relay comes to whose threads have ended, and of which this was counted: what was counted,
-- totals of its configuration with the same numbers, and a store of each buffer; or the error tells
-- why it isn't stopped.
pub record Finishes {S J L : Type 0} {s : blocks.Ghosts S}
    {j : store_premises.Ghosts J} {n : naming.Ghosts J}
    (config : Config) (shared : Shared S J L s j n) (counts : Counted)
    (result : Result (Finished S) ServeError) : Type 0 where
  pub counted : IfOk result (λ run. run.counted ≡ counts)
  pub totals : IfOk result (λ run. IfOk (totals_in run.totals) (AreOf config))
  pub numbers : IfOk result (λ run. IfOk (totals_in run.totals) (λ totals. CountsOf totals counts))
  pub stores : IfOk result (λ run. length run.stopped.stores.items ≡ buffers_in shared)
  pub told : IfErr result (TellsStop shared)
  pub fault : IfErr result IsStopFault

-- What a relay comes to that is run over these stores for these peers: totals of its configuration,
-- whose numbers are those that were counted, and this of a run of these ends; or the error tells
-- why it isn't run, and why it can't start where that is so.
pub record RunsRelay {S J : Type 0} (s : blocks.Ghosts S) (j : store_premises.Ghosts J)
    (config : Config) (stores : List S) (origin : Origin) (peers : List ℕ)
    (result : Result (Finished S) ServeError) : Type 0 where
  pub totals : IfOk result (λ run. IfOk (totals_in run.totals) (AreOf config))
  pub counted : IfOk result
      (λ run. IfOk (totals_in run.totals) (λ totals. CountsOf totals run.counted))
  pub ran : IfOk result (λ run. Ran j config peers run.counted)
  pub start : IfErr result (StartsAsTold s config stores origin)
  pub fault : IfErr result (IsRelayFault s config stores)
