use Rattle.live_store.proofs.AheadLemmas.{none_ahead}
use Rattle.live_store.proofs.following.OneRecord.takes.Goals as goal

-- before the first chunk nothing is read ahead
pub invariant_of-self-clause-chunks : goal.invariant_of-self-clause-chunks
invariant_of-self-clause-chunks g c = λ ahead is.
    absurd (none_ahead g.J.StorePremises.trusted g.J.StorePremises.register c.args.self.now.shown
    ahead c.in_default.is (c.args.self.now.chunks ahead is))
