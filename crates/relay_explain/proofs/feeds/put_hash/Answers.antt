use Rattle.relay_explain.proofs.Puts.{nothing, two}
use Rattle.relay_explain.proofs.feeds.put_hash.Goals as goal

pub returns-in-None : goal.returns-in-None
returns-in-None c = rw c.in-None.is (nothing _)

pub returns-in-Some : goal.returns-in-Some
returns-in-Some c =
    rw c.in-Some.is
    (two (two (two (two (two c.add.ensures c.add_number.ensures) c.add-in-Some.ensures)
    c.add_number-in-Some.ensures) c.add-in-Some-2.ensures) c.add_number-in-Some-2.ensures)
