use Rattle.relay_explain.specs.Found.{found_text}
use Rattle.relay_explain.proofs.Puts.{nothing}
use Rattle.relay_explain.proofs.found.put_found.Goals as goal

pub returns-in-None : goal.returns-in-None
unfolding found_text
returns-in-None c = rw c.in-None.is (nothing _)

pub returns-in-Some : goal.returns-in-Some
returns-in-Some c = rw c.in-Some.is c.put_lying.ensures
