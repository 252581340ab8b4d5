use Rattle.std.proofs.Common.{◌≡◌, ◌≤◌, ◌++◌, All, length, map}
use Rattle.std.specs.List.{range_with_len}
use Rattle.std.specs.Prelude.{vec_capacity}
use Rattle.post_history.specs.Shards.{shards_in}
use Rattle.post_history.proofs.making.remember_all.Given as goal

-- the shards so far remember, and there is room for the others
abbrev pub invariant-loop-shard : goal.invariant-loop-shard
invariant-loop-shard g l = record {
  all : l.yielded ++ l.shard-iterator.rest.items ≡ l.fn.shards.items;
  shards : shards_in l.remembering.items ≡ l.yielded;
  numbers : map (λ one. one.posts.number) l.remembering.items
      ≡ range_with_len 0 (length l.remembering.items);
  rooms : All (λ one. l.fn.buffers ≤ vec_capacity one.posts.used) l.remembering.items;
  room : length l.fn.shards.items ≤ vec_capacity l.remembering;
}
