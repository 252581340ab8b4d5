use Rattle.relay_explain.specs.Choice.{placed_text}
use Rattle.relay_explain.proofs.Puts.{two}
use Rattle.relay_explain.proofs.choice.put_placed.Goals as goal

pub returns-in-None : goal.returns-in-None
unfolding placed_text
returns-in-None c =
    rw c.in-None.is
    (two (two (two c.put_number.ensures c.add-text.ensures) c.put_group_told.ensures) c.add.ensures)

pub returns-in-Some : goal.returns-in-Some
unfolding placed_text
returns-in-Some c = rw c.in-Some.is c.put_small.ensures
