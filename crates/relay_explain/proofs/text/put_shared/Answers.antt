use Rattle.relay_explain.specs.Lines.{shared_line}
use Rattle.relay_explain.proofs.Puts.{nothing}
use Rattle.relay_explain.proofs.text.put_shared.Goals as goal

pub returns-in-None : goal.returns-in-None
unfolding shared_line
returns-in-None c = rw c.in-None.is (nothing _)

pub returns-in-Some : goal.returns-in-Some
unfolding shared_line
returns-in-Some c = rw c.in-Some.is c.put_line.ensures
