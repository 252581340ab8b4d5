use Rattle.std.proofs.Common.{◌∙◌, ap, arith, length}
use Rattle.id_history.specs.declared.kept.KeptFeed as kept
use Rattle.feed_queue.proofs.LeftLemmas.{IsLeft-kept}
use Rattle.feed_queue.proofs.rings.Ring.kept.Goals as goal

-- a ring has fewer than 2 ^ 32 tokens
pub left-requires-clause-few : goal.left-requires-clause-few
left-requires-clause-few c = omega (
  arith,
  ap length c.in_ok-waiting.ensures.items,
  c.args.self.now.waits,
  c.args.self.now.small,
)

-- the counts and the tokens are those of the ring
pub returns-clause-left : goal.returns-clause-left
returns-clause-left c = λ size feed keeps.
    let value = c.left.ensures.value in
    IsLeft-kept c.args.self.now c.left.result (ap (λ (k : kept.KeptFeed). k.gained) value)
    (ap (λ (k : kept.KeptFeed). k.passed) value) (ap (λ (k : kept.KeptFeed). k.taken) value)
    (ap (λ (k : kept.KeptFeed). k.waiting.items) value ∙ c.in_ok-waiting.ensures.items)
    size feed keeps
