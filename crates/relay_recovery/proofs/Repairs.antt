-- Why a relay that was left isn't repaired is why it isn't served.
use Rattle.std.proofs.Common.{[], ℕ, Option, subst, sym}
use Rattle.std.proofs.Common.{List, Result, Ok, Err}
use Rattle.std.specs.Result.{IfOk}
use Rattle.std.specs.IoError.{error_kind}
use Rattle.block_shelf.specs.Each.{AreEach}
use Rattle.block_shelf.specs.Starting.{IsUnwritten}
use Rattle.relay_repair.proofs.FoundOver.{repairs_on}
use Rattle.relay_folder.specs.declared.history_place.HistoryPlace as places
use Rattle.relay_journal.specs.declared.lines.JournalLines as lines
use Rattle.relay_journal.specs.declared.lines.ToldJournal.{ToldJournal}
use Rattle.relay_recovery.specs.Repairing.{IsKeptOfRepair, IsOfRepair, IsOfRepairWith}
use Rattle.cyc_block.specs.declared.store.BlockStore.{Ghosts}
use Rattle.relay_conf.specs.declared.settings.Config.{Config}
use Rattle.relay_core.specs.declared.stopped.NotStarted.{NotStarted}
use Rattle.relay_core.specs.declared.stopped.NotStarted.TheVariants as nots
use Rattle.relay_core.specs.declared.stopped.Stopped.{Stopped}
use Rattle.relay_startup.specs.Starting.{IsUnstartedAs}
use Rattle.relay_startup.proofs.Faults.{nothing_seen, refusal_serves, relay_serves, run_serves}
use Rattle.relay_startup.proofs.Faults.{unbegun_runs}
use Rattle.buffer_files.specs.Faults.{IsRelayFault, IsServeFault, unbegun_as}
use Rattle.relay_report.specs.declared.fault.ServeError.{ServeError}

-- what a repair is refused for
pub unrepaired_serves : {S : Type 0} (config : Config) (refused : NotStarted S)
    (error : ServeError) → IsUnstartedAs config.buffers refused error
    → IsServeFault config error
unrepaired_serves config (nots.Host why back) error e =
    relay_serves nothing_seen config [] error
    (subst (IsRelayFault nothing_seen config []) (sym e)
    (run_serves nothing_seen config [] (unbegun_as (error_kind why))
    (unbegun_runs (error_kind why))))
unrepaired_serves config (nots.Refused refused) error e =
    refusal_serves config refused.buffer refused.error error e

-- both facts of a value
pub both_ok : {T E : Type 0} (r : Result T E) (P Q : T → Type 0) → IfOk r P → IfOk r Q
    → IfOk r (λ x. P x × Q x)
both_ok (Ok x) P Q p q = (p, q)
both_ok (Err e) P Q p q = tt

-- what a repair gives over stores whose heads were looked at is what one gives over those before
pub repair_on : {S : Type 0} {g : Ghosts S} {failed : Option ℕ} {old new : List S}
    (config : Config) (text : List ℕ) (stopped : Stopped S) → AreEach (IsUnwritten g failed) old new
    → IsOfRepair g config text new stopped → IsOfRepair g config text old stopped
repair_on config text stopped are of = record {
  now = of.now;
  back = of.back;
  repairs = (
    of.repairs.0,
    of.repairs.1,
    repairs_on config of.repairs.0 of.now of.back stopped.history.items are of.repairs.2,
  );
  uncalled = of.uncalled;
}

-- so is what one gives whose journal alone has told of some ids,
pub kept_repair_on : {S : Type 0} {g : Ghosts S} {failed : Option ℕ} {old new : List S}
    (config : Config) (text last : List ℕ) (stopped : Stopped S)
    → AreEach (IsUnwritten g failed) old new → IsKeptOfRepair g config text last new stopped
    → IsKeptOfRepair g config text last old stopped
unfolding repair_on
kept_repair_on config text last stopped are of = record {
  found = of.found;
  repaired =
      repair_on config last (record { stores = stopped.stores; history = of.found }) are
      of.repaired;
  wrote = of.wrote;
  unwritten = of.unwritten;
  heads = of.heads;
  are = of.are;
  left = of.left;
}

-- and one that goes by the last history with its journal folded in
pub with_repair_on : {S P L : Type 0} {g : Ghosts S} {p : places.Ghosts P} {l : lines.Ghosts L}
    {failed : Option ℕ} {old new : List S} (config : Config) (text : List ℕ) (stopped : Stopped S)
    (before after : ToldJournal P L) → AreEach (IsUnwritten g failed) old new
    → IsOfRepairWith g p l config text new stopped before after
    → IsOfRepairWith g p l config text old stopped before after
with_repair_on config text stopped before after are of = record {
  read = of.read;
  is_read = of.is_read;
  last = of.last;
  folded = of.folded;
  repaired = kept_repair_on config text of.last stopped are of.repaired;
}
