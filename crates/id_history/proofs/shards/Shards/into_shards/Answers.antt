use Rattle.id_history.proofs.EachLemmas.{EachKeeps-from_all}
use Rattle.id_history.proofs.shards.Shards.into_shards.Goals as goal

-- each has the claims of its own ids
pub returns-clause-keeps : goal.returns-clause-keeps
returns-clause-keeps c = λ claims keeps. EachKeeps-from_all c.args.self claims keeps
