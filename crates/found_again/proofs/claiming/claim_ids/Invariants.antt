use Rattle.std.proofs.Common.{◌≡◌, drop, length, vec_len}
use Rattle.std.specs.Prelude.{reverse}
use Rattle.id_history.specs.Shards.{KeepsAll}
use Rattle.found_again.specs.Claiming.{claimed_by_last}
use Rattle.found_again.specs.Taken.{taken}
use Rattle.found_again.proofs.BackLemmas.{IsFront}
use Rattle.found_again.proofs.claiming.claim_ids.Given as goal

-- the ids of the texts that come after those that are left are taken, by the last of each
abbrev pub invariant-loop-text : goal.invariant-loop-text
invariant-loop-text l = record {
  front : IsFront l.fn.texts.items l.left.items;
  claimed : reverse l.newest_first.items
      ≡ claimed_by_last (drop (length l.left.items) l.fn.texts.items);
  known : KeepsAll l.known (taken (drop (length l.left.items) l.fn.texts.items));
}

abbrev pub decreases-loop-text : goal.decreases-loop-text
decreases-loop-text l = vec_len l.left
