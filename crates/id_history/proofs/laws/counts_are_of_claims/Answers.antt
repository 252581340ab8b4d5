use Rattle.id_history.proofs.CountLaws.{CountsOf-one}
use Rattle.id_history.proofs.laws.counts_are_of_claims.Goals as goal

-- each number is that of the ids that pass, of which both have the same
pub returns : goal.returns
returns c = λ claims first second. CountsOf-one claims c.args.one c.args.other first second
