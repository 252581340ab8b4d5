use Rattle.id_history.specs.Shard.{mark_at}
use Rattle.id_history.proofs.claims.Shard.entry.Goals as goal

-- the copy of what the map has at the text of the id
pub returns : goal.returns
unfolding mark_at
returns c = rw (← c.as_str.ensures.value, c.copied.ensures, c.get.ensures.value)
