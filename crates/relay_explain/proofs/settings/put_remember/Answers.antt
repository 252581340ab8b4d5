use Rattle.relay_explain.specs.Settings.{remember_text, remembered_text}
use Rattle.relay_explain.proofs.Puts.{two}
use Rattle.relay_explain.proofs.settings.put_remember.Goals as goal

pub returns-in-None : goal.returns-in-None
unfolding remember_text
returns-in-None c = rw c.in-None.is c.add.ensures

pub returns-in-Some : goal.returns-in-Some
unfolding remember_text remembered_text
returns-in-Some c =
    let number = rw c.as_slice-told.ensures at c.put_number-text.ensures in
    rw (c.in-Some.is, ← c.is_soon_forgotten.ensures, ← c.key_line.ensures)
    (two number c.put_odd.ensures)
