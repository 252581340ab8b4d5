use Rattle.std.proofs.Common.{ap, refl, rules}
use Rattle.feed_queue.proofs.KeepLemmas.{keeps-gained}
use Rattle.feed_queue.proofs.rings.Ring.gain.Goals as goal

-- the token is in the ring and counted
pub returns-in-Some-clause-keeps : goal.returns-in-Some-clause-keeps
returns-in-Some-clause-keeps c size feed room keeps =
    keeps-gained _ _ size feed c.args.token
    (ap (λ b. b.capacity) c.push_back.ensures.items)
    (ap (λ b. b.items) c.push_back.ensures.items)
    (search rules) refl refl keeps
