use Rattle.std.proofs.Common.{refl}
use Rattle.id_history.specs.Shard.{mark_at}
use Rattle.id_history.proofs.claims.Shard.new.Goals as goal

-- an empty map has no mark
pub returns : goal.returns
unfolding mark_at
returns c = record { agrees = λ id. rw c.with_hasher.ensures.empty refl }
