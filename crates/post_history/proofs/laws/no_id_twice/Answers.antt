use Rattle.std.proofs.Common.{[]}
use Rattle.std.proofs.lemmas.Bool.{false≢true}
use Rattle.post_history.proofs.OnceLaws.{earlier_gone}
use Rattle.post_history.proofs.laws.no_id_twice.Goals as goal

pub returns : goal.returns
returns c = λ posts once i j one other before at at' same.
    false≢true (earlier_gone [] posts once i j one other before at at' same)
