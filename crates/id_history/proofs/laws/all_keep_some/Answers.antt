use Rattle.id_history.proofs.ShardsLemmas.{kept_by, kept_by-all}
use Rattle.id_history.proofs.laws.all_keep_some.Goals as goal

-- of each id a claim of what its own shard has
pub returns : goal.returns
returns c = (kept_by c.args.shards.now, kept_by-all c.args.shards.now)
