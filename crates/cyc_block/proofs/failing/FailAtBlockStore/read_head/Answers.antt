-- A call that isn't failed on purpose is the store's below.
use Rattle.std.proofs.lemmas.Bool.{false≢true}
use Rattle.cyc_block.proofs.failing.FailAtBlockStore.read_head.Goals as goal

pub returns-clause-turn : goal.returns-clause-turn
returns-clause-turn g c = (
  c.in_ok-counted.ensures.left,
  λ due. absurd (false≢true (c.in_ok-counted.ensures.due.1 due)),
  λ other. c.read_head.ensures.calls,
  λ other. c.read_head.ensures.failed,
)
