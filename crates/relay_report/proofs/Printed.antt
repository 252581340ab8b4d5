-- What is printed of a relay whose totals are those of its configuration.
use Rattle.std.proofs.Common.{ℕ, List}
use Rattle.std.specs.Prelude.{Option, Result, Ok, Err}
use Rattle.relay_conf.specs.declared.settings.Config.{Config}
use Rattle.relay_report.specs.declared.totals.Totals.{Totals}
use Rattle.relay_report.specs.Serve.{AreOf, PrintGives, ServeGives}
use Rattle.relay_report.specs.declared.fault.ServeError.{ServeError}
use Rattle.relay_report.specs.declared.fault.ServeError.TheVariants as faults

-- the totals are of the configuration, so what is printed of them is what serving it prints
pub printed : (config : Config) (totals : Totals) (result : Result (Unit {0}) ServeError)
    (before after : Option (List ℕ)) → AreOf config totals
    → PrintGives totals result before after → ServeGives config result before after
printed config totals (Ok finished) before after of gives = (totals, of, gives)
printed config totals (Err faults.Unwritten) before after of gives = (totals, of, gives)
printed config totals (Err faults.Memory) before after of gives = (tt, gives)
printed config totals (Err faults.Control) before after of gives = absurd gives
printed config totals (Err (faults.Start fault)) before after of gives = absurd gives
printed config totals (Err (faults.Stop fault)) before after of gives = absurd gives
printed config totals (Err faults.Unseeded) before after of gives = absurd gives
printed config totals (Err faults.NoThread) before after of gives = absurd gives
printed config totals (Err (faults.File lost)) before after of gives = absurd gives
printed config totals (Err (faults.Port lost)) before after of gives = absurd gives
