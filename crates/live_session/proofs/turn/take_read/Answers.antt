use Rattle.std.proofs.Common.{subst, sym}
use Rattle.live_jobs.specs.Seats.{IsSeatOf}
use Rattle.live_jobs.specs.declared.session.SessionSeat.{SessionSeat}
use Rattle.live_session.proofs.LiveSessions.{turned}
use Rattle.live_session.proofs.turn.take_read.Goals as goal
use Rattle.live_session.specs.Going.{said_in}
use Rattle.peer_session.specs.declared.steps.Step.TheVariants as steps

pub returns-clause-seat : goal.returns-clause-seat
returns-clause-seat g c =
    let P : SessionSeat → Type 0 = λ s. IsSeatOf c.args.context.now.channels.now s in
    subst P (sym c.hear.ensures.seat) c.share_read-answer.ensures.seat

pub returns-clause-went : goal.returns-clause-went
returns-clause-went g c = λ w old plans rest.
    let share = c.share_read-answer in
    turned w old c.hear.new.live (steps.Read c.args.token c.args.k) c.args.context.now.moment
    c.args.live.now share.new.live share.result (said_in c.hear.result) c.requires.moment plans rest
    (share.ensures.shared w) share.ensures.place share.ensures.memory
    c.hear.ensures.heard c.hear.ensures.memory c.hear.ensures.rest
