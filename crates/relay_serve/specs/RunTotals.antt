-- The totals of a run, which nobody sees before its history is kept.
use Rattle.std.specs.Prelude.{Result}
use Rattle.std.specs.declared.alloc.AllocError.{AllocError}
use Rattle.relay_report.specs.declared.totals.Totals.{Totals}
use Rattle.relay_serve.specs.declared.run_totals.RunTotals.{RunTotals}

-- the totals, or that there was no memory for them
abbrev pub totals_in : RunTotals → Result Totals AllocError
totals_in run = run.totals
