-- Of which message-ids the shards of a list have anything (docs/PROTOCOL.md, Claims).
use Rattle.std.specs.Prelude.{◌≡◌, ◌≢◌, ◌<◌, ℕ, List, length, slice_index_or}
use Rattle.relay_model.specs.Run.{shard_of}
use Rattle.id_history.specs.declared.claims.Shard.{Shard}
use Rattle.id_history.specs.Mark.{Unknown}
use Rattle.id_history.specs.Shard.{mark_at}

-- no shard has anything of another shard's ids; `none` would stand for a shard past the last
pub record OwnIds (shards : List Shard) : Type 0 where
  pub unknown : (k : ℕ) (id : List ℕ) (none : Shard) → k < length shards → shard_of id ≢ k
      → mark_at (slice_index_or shards k none) id ≡ Unknown
