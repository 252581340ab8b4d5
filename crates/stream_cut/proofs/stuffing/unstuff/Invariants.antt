-- What was told and the lines to tell are the text.
use Rattle.std.proofs.Common.{◌≡◌, ◌≤◌, ◌-◌, ◌++◌, length, drop, List, ℕ}
use Rattle.news_terms.specs.Blocks.{unstuffed_line}
use Rattle.stream_cut.proofs.TextLemmas.{sent}
use Rattle.stream_cut.proofs.stuffing.unstuff.Given as goal

abbrev pub invariant-loop-next : goal.invariant-loop-next
invariant-loop-next l = record {
  within : l.at ≤ length l.lines;
  told : l.text.items ++ sent unstuffed_line (drop l.at l.lines) ≡ sent unstuffed_line l.lines;
  whole : sent (λ (s : List ℕ). s) (drop l.at l.lines) ≡ drop l.at l.lines;
}

abbrev pub decreases-loop-next : goal.decreases-loop-next
decreases-loop-next l = length l.lines - l.at
