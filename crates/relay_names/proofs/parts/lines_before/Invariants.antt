use Rattle.std.proofs.Common.{◌≡◌, ◌+◌, ◌-◌, ◌≤◌, drop, length, map}
use Rattle.std.specs.List.{position_or_len}
use Rattle.relay_names.specs.Text.{is_mark}
use Rattle.relay_names.specs.Views.{line_view}
use Rattle.relay_names.proofs.parts.lines_before.Given as goal

-- none of the lines so far begins a part
abbrev pub invariant-loop-before : goal.invariant-loop-before
invariant-loop-before l = record {
  place : position_or_len is_mark (map line_view l.lines)
      ≡ l.before + position_or_len is_mark (map line_view (drop l.before l.lines));
  within : l.before ≤ length l.lines;
}

abbrev pub decreases-loop-before : goal.decreases-loop-before
decreases-loop-before l = length l.lines - l.before
