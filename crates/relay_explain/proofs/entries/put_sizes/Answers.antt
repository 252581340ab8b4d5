use Rattle.relay_explain.specs.Entries.{sizes_text}
use Rattle.relay_explain.proofs.Puts.{two}
use Rattle.relay_explain.proofs.entries.put_sizes.Goals as goal

pub returns-in-None : goal.returns-in-None
unfolding sizes_text
returns-in-None c = rw c.in-None.is (two c.add_number-text.ensures c.add.ensures)

pub returns-in-Some : goal.returns-in-Some
unfolding sizes_text
returns-in-Some c =
    rw c.in-Some.is
    (two (two (two c.add_number-text.ensures c.add-in-Some.ensures) c.add_number.ensures)
    c.add-in-Some-2.ensures)
