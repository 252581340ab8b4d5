use Rattle.std.proofs.Common.{◌≡◌, [], map}
use Rattle.relay_live.specs.Making as shareds
use Rattle.relay_live.specs.Rounds.{buffers_in, first_numbers, gone_over, shards_in, times_of}
use Rattle.relay_live.proofs.forgetting.go.Given as goal

-- a front of each buffer so far
abbrev pub invariant-loop-number : goal.invariant-loop-number
invariant-loop-number g l = record {
  times : times_of l.rounds ≡ (l.now, l.remember);
  numbers : buffers_in l.rounds ≡ first_numbers l.number;
  shards : shards_in l.rounds ≡ [];
}

-- all fronts, and so many shards
abbrev pub invariant-loop-shard : goal.invariant-loop-shard
invariant-loop-shard g l = record {
  times : times_of l.rounds ≡ (l.now, l.remember);
  numbers : buffers_in l.rounds ≡ first_numbers (shareds.buffers_in l.shared);
  shards : shards_in l.rounds
      ≡ map (gone_over (shareds.buffers_in l.shared)) (first_numbers l.shard-index);
}
