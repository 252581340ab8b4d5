use Rattle.std.proofs.Common.{◌∙◌, ap}
use Rattle.relay_explain.specs.Choice.{class_text, first_small}
use Rattle.relay_explain.proofs.Puts.{two}
use Rattle.relay_explain.proofs.choice.put_class.Goals as goal

pub returns-in-None : goal.returns-in-None
unfolding class_text
returns-in-None c = rw c.in-None.is (two c.put_number.ensures c.add.ensures)

pub returns-in-Some : goal.returns-in-Some
unfolding class_text
returns-in-Some c =
    let small = c.first_small-small.ensures
    ∙ ap (λ numbers. first_small c.args.buffers.now numbers c.args.size) c.deref.ensures.value in
    rw (c.in-Some.is, ← small) c.put_placed.ensures
