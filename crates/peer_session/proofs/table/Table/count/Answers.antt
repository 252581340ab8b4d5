use Rattle.peer_session.proofs.OfferLemmas.{once_open}
use Rattle.peer_session.proofs.table.Table.count.Goals as goal

pub returns-clause-once : goal.returns-clause-once
returns-clause-once c = once_open c.args.self.now.offers.items c.requires.once
