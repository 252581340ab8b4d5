-- What is reported of a relay as it is (docs/FORMATS.md, Report).
use Rattle.std.specs.Prelude.{ℕ, Bool, List}
use Rattle.cyc_block.specs.declared.store.BlockStore.{Ghosts}
use Rattle.relay_core.specs.Agreement.{Agrees}
use Rattle.relay_core.specs.Figures.{config_of}
use Rattle.relay_core.specs.declared.system.System.{System}
use Rattle.relay_model.specs.World.{World}
use Rattle.relay_report.specs.Report.{ReportsOn}

-- the text reports each state that the relay agrees with
abbrev pub Reports : {S : Type 0} {g : Ghosts S} → System S g → List ℕ → Type 0
Reports system text =
    (trusted : Bool) (x : World) → Agrees trusted system x
    → ReportsOn (config_of system) x.state text
