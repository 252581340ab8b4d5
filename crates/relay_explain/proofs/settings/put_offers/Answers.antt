use Rattle.relay_explain.specs.Settings.{offers_text}
use Rattle.relay_explain.proofs.settings.put_offers.Goals as goal

pub returns-in-None : goal.returns-in-None
unfolding offers_text
returns-in-None c = rw c.in-None.is c.add.ensures

pub returns-in-Some : goal.returns-in-Some
unfolding offers_text
returns-in-Some c =
    let number = rw c.as_slice-told.ensures at c.put_number.ensures in
    rw c.in-Some.is number
