use Rattle.std.proofs.Common.{arith, sym, ◌∙◌, ap}
use Rattle.feed_queue.proofs.PermissionLemmas.{permitted-with, permitted-without, permitted-all}
use Rattle.feed_queue.proofs.permission.numbers_of.Goals as goal
use Rattle.feed_queue.proofs.permission.numbers_of.Goals.{then-may_have+in_ok-push, else-may_have}

-- the feed's number is there where it may have the article
pub loop-number-preserved : goal.loop-number-preserved
loop-number-preserved c =
    record {
      numbers = λ w a feeds parts. elim c.if-may_have.branch [
        | then-may_have+in_ok-push s ↦ ap (λ v. v.items) s.numbers-is ∙ s.in_ok-push.ensures.items
            ∙ permitted-with w c.args.from a c.args.feeds.now _ _ _ (omega arith)
            c.index-feeds-number.is
            (sym s.if-may_have.true ∙ c.may_have.ensures.may w a feeds.identities parts)
            (c.loop-number.invariant.numbers w a feeds parts)
        | else-may_have s ↦ ap (λ v. v.items) s.numbers-is
            ∙ permitted-without w c.args.from a c.args.feeds.now _ _ _ (omega arith)
            c.index-feeds-number.is
            (sym s.if-may_have.false ∙ c.may_have.ensures.may w a feeds.identities parts)
            (c.loop-number.invariant.numbers w a feeds parts)
      ];
      hash = c.may_have.ensures.known;
    }

-- all feeds were tried
pub returns : goal.returns
returns c w a feeds parts =
    permitted-all w c.args.from a c.args.feeds.now _ _ (omega arith) feeds.each
    (c.loop-number.invariant.numbers w a feeds parts)
