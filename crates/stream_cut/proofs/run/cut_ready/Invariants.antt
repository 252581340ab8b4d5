-- What was cut and what is to be cut are what was to be cut, however the stream goes on.
use Rattle.std.proofs.Common.{◌≡◌, ◌++◌, ◌-◌, ℕ, List, length, drop, map}
use Rattle.stream_cut.specs.Cuts.{cut_off, cuts_of}
use Rattle.stream_cut.specs.Steps.{GoesOn}
use Rattle.stream_cut.proofs.run.cut_ready.Given as goal

abbrev pub invariant-loop-at : goal.invariant-loop-at
invariant-loop-at l = record {
  sound : GoesOn (drop l.at l.wants) l.cutter;
  limit : l.cutter.limit ≡ l.fn.cutter.limit;
  cut : (more : List ℕ) → map cut_off l.cuts.items ++ cuts_of l.fn.cutter.limit (drop l.at l.wants)
      (l.cutter.unread ++ more)
      ≡ map cut_off l.fn.cuts.items ++ cuts_of l.fn.cutter.limit (drop l.next l.wants)
      (l.fn.cutter.unread ++ more);
}

abbrev pub decreases-loop-at : goal.decreases-loop-at
decreases-loop-at l = length l.wants - l.at
