use Rattle.std.proofs.Common.{◌≡◌, ◌++◌}
use Rattle.relay_report.specs.Text.{spaces}
use Rattle.relay_report.proofs.columns.put_spaces.Given as goal

-- so many spaces are there
abbrev pub invariant-loop : goal.invariant-loop
invariant-loop l = l.text.items ≡ l.fn.text.items ++ spaces l.counter
