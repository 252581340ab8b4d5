use Rattle.relay_explain.specs.Patterns.{octet_text}
use Rattle.relay_explain.proofs.patterns.put_octet.Goals as goal

pub returns : goal.returns
unfolding octet_text
returns c = rw c.in-Some.is c.put_odd_number.ensures
