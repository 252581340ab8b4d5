use Rattle.relay_explain.specs.Choice.{taken_text}
use Rattle.relay_explain.proofs.choice.put_taken.Goals as goal

pub returns-in-None : goal.returns-in-None
unfolding taken_text
returns-in-None c = rw c.in-None.is c.add.ensures

pub returns-in-Some : goal.returns-in-Some
unfolding taken_text
returns-in-Some c =
    rw (c.in-Some.is, ← c.group_at-group.ensures, ← c.deref.ensures.value) c.put_class.ensures
