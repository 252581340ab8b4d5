-- What a change of one entry does to all that a shard has.
use Rattle.std.specs.Prelude.{◌≡◌, ℕ, List}
use Rattle.relay_model.specs.State.{put_id}
use Rattle.id_history.specs.declared.claims.Shard.{Shard}
use Rattle.id_history.specs.Mark.{Mark}
use Rattle.id_history.specs.Shard.{mark_at}

-- the new shard has this of the message-id, and of every other what the old one has
pub record SetsMark (old new : Shard) (id : List ℕ) (mark : Mark) : Type 0 where
  pub marks : (other : List ℕ) → mark_at new other ≡ put_id (mark_at old) id mark other

-- the new shard has what the old one has
pub record SameMarks (old new : Shard) : Type 0 where
  pub marks : (other : List ℕ) → mark_at new other ≡ mark_at old other
