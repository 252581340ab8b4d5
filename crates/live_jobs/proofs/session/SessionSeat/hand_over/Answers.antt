use Rattle.std.proofs.Common.{refl}
use Rattle.live_jobs.proofs.Passes.{fits_at, job_step, handed_more}
use Rattle.live_jobs.proofs.session.SessionSeat.hand_over.Goals as goal

pub hand_over-change-requires-clause-pass : goal.hand_over-change-requires-clause-pass
hand_over-change-requires-clause-pass g c =
    (fits_at _ _ _ _ _ _ _ c.requires.seat c.requires.group c.index-channels-group.is
    c.index_mut.ensures.value).1

pub hand_over-change-requires-clause-open : goal.hand_over-change-requires-clause-open
hand_over-change-requires-clause-open g c =
    let at = fits_at _ _ _ _ _ _ _ c.requires.seat c.requires.group c.index-channels-group.is
    c.index_mut.ensures.value in (at.2, at.3)

pub returns : goal.returns
returns g c =
    let at = fits_at _ _ _ _ _ _ _ c.requires.seat c.requires.group c.index-channels-group.is
    c.index_mut.ensures.value in
    let step = job_step _ _ _ _ _ _ c.hand_over-change.new.pass _ c.requires.seat c.requires.group
    c.index-channels-group.is c.index_mut.ensures.value c.hand_over-change.ensures.pass
    (handed_more _ _ _ _ at.2 c.hand_over-change.ensures.taken) in
    record { seat = step.0; end = refl; number = refl; count = refl; taken = step.1 }
