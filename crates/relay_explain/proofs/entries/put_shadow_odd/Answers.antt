use Rattle.std.proofs.Common.{append-nil}
use Rattle.relay_explain.specs.Entries.{shadow_odd}
use Rattle.relay_explain.proofs.Puts.{nothing}
use Rattle.relay_explain.proofs.entries.put_shadow_odd.Goals as goal

pub returns-in-None : goal.returns-in-None
unfolding shadow_odd
returns-in-None c = rw c.in-None.is (nothing _)

pub returns-in-Some : goal.returns-in-Some
unfolding shadow_odd
returns-in-Some c =
    rw (c.in-Some.is, ← c.first.view_is) (rw append-nil at c.put_odd_number.ensures)
