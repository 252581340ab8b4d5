use Rattle.std.proofs.Common.{◌∙◌, ap, min}
use Rattle.feed_queue.proofs.KeepLemmas.{oldest-are}
use Rattle.feed_queue.proofs.rings.Ring.oldest.Goals as goal

-- they are what a take gives
pub returns-clause-items : goal.returns-clause-items
returns-clause-items c =
    oldest-are c.numbered.result c.args.self.now c.args.most _ _ c.passed_now.ensures.passed
    (c.min-count.ensures ∙ ap (min c.args.most) c.len.ensures.len) c.numbered.ensures.items
