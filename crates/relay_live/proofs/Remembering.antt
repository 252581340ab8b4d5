-- Shards that remember their posts, as the shards themselves.
use Rattle.std.proofs.Common.{◌≡◌, ◌∙◌, ℕ, List, ap, length, slice_index_or, sym}
use Rattle.std.proofs.Math.ListN.{get_or-map}
use Rattle.std.proofs.lemmas.List.{length-map}
use Rattle.post_history.specs.Shards.{shards_in}
use Rattle.post_history.specs.declared.book.Naming.{Ghosts}
use Rattle.post_history.specs.declared.remembering.RememberingShard.{RememberingShard}

module _ {J : Type 0} {g : Ghosts J} (all : List (RememberingShard J g)) where
  -- the shard at a place is that of the one there
  pub shard_at : (k : ℕ) (one : RememberingShard J g) → one ≡ slice_index_or all k one
      → one.shard ≡ slice_index_or (shards_in all) k one.shard
  shard_at k one is =
      ap (λ (x : RememberingShard J g). x.shard) is
      ∙ sym (get_or-map (λ (x : RememberingShard J g). x.shard) all k one)

  -- there are as many
  pub as_many_shards : length (shards_in all) ≡ length all
  as_many_shards = length-map all (λ (x : RememberingShard J g). x.shard)
