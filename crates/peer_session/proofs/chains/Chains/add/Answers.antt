use Rattle.std.proofs.Common.{◌≡◌, ◌<◌, ◌∙◌, arith, rules, length, get_or}
use Rattle.std.proofs.lemmas.Grind.{get_or_default_zero}
use Rattle.peer_session.proofs.ChainLemmas.{linked_added}
use Rattle.peer_session.proofs.chains.Chains.add.Goals as goal

pub returns-clause-chains : goal.returns-clause-chains
returns-clause-chains c =
    let within : c.args.bucket < length c.args.self.now.latest.items =
    omega (arith, c.requires.room.buckets) in
    let link : c.index-link.result.now ≡ get_or c.args.self.now.latest.items c.args.bucket 0 =
    c.index-link.ensures ∙ get_or_default_zero _ _ _ within in
    λ places id are same.
    linked_added c.push_reserved.ensures.items c.push_reserved-2.ensures.items link
    (search rules) within same are
