use Rattle.peer_session.proofs.ChainLemmas.{linked_anew}
use Rattle.peer_session.proofs.chains.Chains.clear.Goals as goal

pub returns-clause-chains : goal.returns-clause-chains
returns-clause-chains c =
    linked_anew _ (c.fill.ensures.items (λ y e. e)) c.clear.ensures.items c.clear-2.ensures.items
