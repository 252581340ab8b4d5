use Rattle.std.proofs.Common.{◌∙◌, ap}
use Rattle.relay_explain.specs.Sums.{connections_of, disk_of, wants_text}
use Rattle.relay_explain.proofs.Puts.{two}
use Rattle.relay_explain.proofs.sums.put_wants.Goals as goal

pub returns : goal.returns
unfolding wants_text
returns c =
    let disk = c.disk_of.ensures ∙ ap disk_of c.deref.ensures.value in
    let connections =
    c.connections_of.ensures.value ∙ ap connections_of c.deref-2.ensures.value in
    rw (← disk, ← c.memory_of.ensures, ← connections, ← c.descriptors_of.ensures)
    (two (two (two (two (two (two (two (two c.add.ensures c.add_number.ensures) c.add-2.ensures)
    c.add_number-2.ensures) c.add-3.ensures) c.add_number-3.ensures) c.add-4.ensures)
    c.add_number-4.ensures) c.add-5.ensures)
