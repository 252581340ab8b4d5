use Rattle.relay_explain.proofs.Untaken.{unmatched}
use Rattle.relay_explain.proofs.laws.untaken_newsgroups_do_not_match.Goals as goal

pub returns : goal.returns
returns c = unmatched
