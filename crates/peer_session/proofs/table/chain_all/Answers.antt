use Rattle.std.proofs.Common.{subst}
use Rattle.std.proofs.lemmas.List.{take_all}
use Rattle.peer_session.specs.Chains.{AreChains}
use Rattle.peer_session.specs.Places.{ids_of}
use Rattle.peer_session.proofs.table.chain_all.Goals as goal

-- the places gone over are all
pub returns-clause-chains : goal.returns-clause-chains
returns-clause-chains c =
    subst (λ offers. AreChains (ids_of offers) c.loop-place.chains)
    (take_all c.loop-place.place-index c.args.offers.now c.loop-place-test.false)
    c.loop-place.invariant.chains
