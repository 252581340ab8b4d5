-- What was sent and what is left to send are all that is to be sent, and there is room for it.
use Rattle.std.proofs.Common.{◌≡◌, ◌+◌, ◌≤◌, ◌-◌, ◌++◌, length, drop, vec_len, vec_capacity}
use Rattle.news_terms.specs.Blocks.{stuffed}
use Rattle.stream_cut.proofs.stuffing.put_stuffed.Given as goal

abbrev pub invariant-loop-next : goal.invariant-loop-next
invariant-loop-next l = record {
  within : l.at ≤ length l.text;
  told : l.block.items ++ stuffed (drop l.at l.text) ≡ l.initial.block.items ++ stuffed l.text;
  room : vec_len l.block + length (stuffed (drop l.at l.text)) ≤ vec_capacity l.block;
  capacity : vec_capacity l.block ≡ vec_capacity l.initial.block;
}

abbrev pub decreases-loop-next : goal.decreases-loop-next
decreases-loop-next l = length l.text - l.at
