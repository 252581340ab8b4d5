use Rattle.std.proofs.Common.{◌≤◌, arith}
use Rattle.relay_laws.proofs.records.feeds_in_order.Goals as goal

pub returns-clause-all_taken : goal.returns-clause-all_taken
returns-clause-all_taken c = record { taken = omega arith; passed = omega arith }

pub returns-clause-taken_past : goal.returns-clause-taken_past
returns-clause-taken_past c = λ is. let taken : 2 ≤ 1 = is.taken in omega (arith, taken)

pub returns-clause-passed_past : goal.returns-clause-passed_past
returns-clause-passed_past c = λ is. let passed : 4 ≤ 3 = is.passed in omega (arith, passed)
