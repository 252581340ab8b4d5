use Rattle.std.proofs.Common.{rules}
use Rattle.peer_session.proofs.ChainLemmas.{linked_anew}
use Rattle.peer_session.proofs.chains.Chains.new.Goals as goal

pub returns-clause-chains : goal.returns-clause-chains
returns-clause-chains c =
    linked_anew 512 (search rules) c.in_ok-with_capacity.ensures.items
    c.in_ok-with_capacity-2.ensures.items
