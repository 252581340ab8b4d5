use Rattle.std.proofs.Common.{◌≡◌, ◌≤◌, length}
use Rattle.std.specs.Prelude.{vec_capacity}
use Rattle.relay_check.proofs.adding.zeros_in.Given as goal

-- one is said of each file so far, and there is room for the others
abbrev pub invariant-loop-number : goal.invariant-loop-number
invariant-loop-number l = record {
  count : length l.blank.items ≡ l.number;
  room : length l.files ≤ vec_capacity l.blank;
}
