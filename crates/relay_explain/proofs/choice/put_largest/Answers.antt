use Rattle.relay_explain.proofs.Puts.{two}
use Rattle.relay_explain.proofs.choice.put_largest.Goals as goal

pub returns : goal.returns
returns c = two (two (two c.add.ensures c.add_number.ensures) c.add-2.ensures) c.add-3.ensures
