use Rattle.std.proofs.Common.{ap}
use Rattle.live_jobs.proofs.Plans.{same_seat, same_kept}
use Rattle.live_jobs.proofs.start.start_end.Goals as goal

pub body-requires : goal.body-requires
body-requires g c κs within =
    let e = c.in-Err.ensures.err in
    let seat = ap (λ v. v.3.seat) e in
    let end = ap (λ v. v.0) e in
    let fits = same_seat _ _ c.in-Err.refused.value.3.seat c.args.plan.seat _ (ap (λ v. v.2.now) e)
    seat end c.requires.seat in (
      within.0,
      (
        within.1.0,
        (
          within.1.1.0,
          (
            within.1.1.1,
            (
              fits.0,
              fits.1,
              same_kept g.V.Accounts.fits _ _ c.in-Err.refused.value.3.seat c.args.plan.seat _
                  (ap (λ v. v.3.service) e) seat end c.requires.kept,
            ),
          ),
        ),
      ),
    )
