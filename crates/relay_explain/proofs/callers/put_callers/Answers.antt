use Rattle.std.proofs.lemmas.Bool.{ne_eqb}
use Rattle.relay_explain.specs.Callers.{callers_text}
use Rattle.relay_explain.proofs.callers.put_callers.Goals as goal

pub returns-in-Ok : goal.returns-in-Ok
unfolding callers_text
returns-in-Ok c =
    let told = rw (c.deref.ensures.value, c.in-Ok.ensures, c.as_slice-name.ensures)
    at c.put_ranges.ensures in
    rw (ne_eqb _ _ c.if-peer-eq0.false) told
