use Rattle.relay_explain.proofs.Puts.{two}
use Rattle.relay_explain.proofs.choice.put_number.Goals as goal

pub returns : goal.returns
returns c = two c.add.ensures c.add_number.ensures
