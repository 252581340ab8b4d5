use Rattle.live_store.proofs.AheadLemmas.{given_chunk, has_own}
use Rattle.live_store.proofs.following.OneRecord.give.Goals as goal

pub returns-then-ends_with-clause-chunk : goal.returns-then-ends_with-clause-chunk
returns-then-ends_with-clause-chunk g c = λ is_true.
    given_chunk g.J.StorePremises.register c.args.token.now c.args.k _
    g.J.StorePremises.trusted c.args.self.now.shown c.in-Some.ahead
    (c.args.self.now.chunks c.in-Some.ahead c.in-Some.is) is_true c.in_ok-octets.ensures.there
    c.in_ok-octets.ensures.chunk

pub returns-then-ends_with-clause-own : goal.returns-then-ends_with-clause-own
returns-then-ends_with-clause-own g c =
    has_own g.J.StorePremises.trusted g.J.StorePremises.register c.args.self.now.shown
    c.in-Some.ahead (c.args.self.now.chunks c.in-Some.ahead c.in-Some.is)

pub returns-else-ends_with-clause-chunk : goal.returns-else-ends_with-clause-chunk
returns-else-ends_with-clause-chunk g c = λ is_true.
    given_chunk g.J.StorePremises.register c.args.token.now c.args.k _
    g.J.StorePremises.trusted c.args.self.now.shown c.in-Some.ahead
    (c.args.self.now.chunks c.in-Some.ahead c.in-Some.is) is_true c.in_ok-octets.ensures.there
    c.in_ok-octets.ensures.chunk

pub returns-else-ends_with-clause-own : goal.returns-else-ends_with-clause-own
returns-else-ends_with-clause-own g c =
    has_own g.J.StorePremises.trusted g.J.StorePremises.register c.args.self.now.shown
    c.in-Some.ahead (c.args.self.now.chunks c.in-Some.ahead c.in-Some.is)
