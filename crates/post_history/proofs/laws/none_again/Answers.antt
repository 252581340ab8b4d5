use Rattle.std.proofs.Common.{[], sym}
use Rattle.std.proofs.lemmas.Bool.{false≢true}
use Rattle.post_history.proofs.OnceLaws.{last_at}
use Rattle.post_history.proofs.laws.none_again.Goals as goal

pub returns : goal.returns
returns c = λ text posts once id token is i one at same.
    false≢true (last_at [] id token posts i one (once.anew id token is) at (sym same))
