use Rattle.std.proofs.Common.{◌∙◌, sym}
use Rattle.cyc_token.specs.Token.{token_view}
use Rattle.relay_model.specs.Writers.{gaining}
use Rattle.feed_queue.proofs.DeskLemmas.{keeps-same, gaining-new, gaining-again, not-true}
use Rattle.feed_queue.proofs.DeskLemmas.{not-false}
use Rattle.feed_queue.proofs.desk.FeedDesk.gain_once.Goals as goal

-- a feed that wasn't named gains the token
pub returns-then-is_new-clause-keeps : goal.returns-then-is_new-clause-keeps
returns-then-is_new-clause-keeps c sizes feeds below counts keeps =
    keeps-same _ sizes _ _
    (gaining-new feeds c.args.before.now c.args.feed (token_view c.args.token)
    (not-true _ (sym (c.is_new.ensures below) ∙ c.if-is_new.true)))
    (c.gain.ensures.keeps sizes (gaining feeds c.args.before.now (token_view c.args.token)) counts
    keeps)

-- a feed that was named stays
pub returns-else-is_new-clause-keeps : goal.returns-else-is_new-clause-keeps
returns-else-is_new-clause-keeps c sizes feeds below counts keeps =
    keeps-same _ sizes _ _
    (gaining-again feeds c.args.before.now c.args.feed (token_view c.args.token)
    (not-false _ (sym (c.is_new.ensures below) ∙ c.if-is_new.false)))
    keeps
