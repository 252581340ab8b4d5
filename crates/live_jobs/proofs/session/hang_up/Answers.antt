use Rattle.std.proofs.Common.{◌≡◌, ◌<◌, ℕ, true, arith}
use lib.Dec.{ltb}
use Rattle.std.proofs.lemmas.Bool.Decides.{nat_tests}
use Rattle.live_jobs.proofs.Passes.{fits_marks}
use Rattle.live_jobs.proofs.session.hang_up.Goals as goal

all_below : (n k : ℕ) → k < n → ltb k n ≡ true
all_below n k less = grind (arith, nat_tests)

pub returns-clause-left : goal.returns-clause-left
returns-clause-left g c =
    fits_marks _ _ _ _ _ c.push_marks.ensures.fits (λ k less. all_below _ k less)
