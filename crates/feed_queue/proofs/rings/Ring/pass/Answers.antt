use Rattle.std.proofs.Common.{refl, arith}
use Rattle.std.proofs.lemmas.Grind.{common_steps}
use Rattle.feed_queue.proofs.KeepLemmas.{keeps-taken}
use Rattle.feed_queue.proofs.rings.Ring.pass.Goals as goal

-- the oldest tokens are gone
pub returns-clause-keeps : goal.returns-clause-keeps
returns-clause-keeps c size feed keeps =
    keeps-taken _ _ size c.args.most feed (grind (arith, common_steps))
    (grind (arith, common_steps)) refl (omega arith) (omega arith) keeps
