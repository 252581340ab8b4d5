use Rattle.std.proofs.Common.{Option, refl, subst, sym}
use Rattle.buffer_group.specs.declared.job.Job.{Job}
use Rattle.live_jobs.specs.Seats.{IsSeatOf}
use Rattle.live_jobs.specs.declared.session.SessionSeat.{SessionSeat}
use Rattle.live_session.proofs.LiveSessions.{turned}
use Rattle.live_session.proofs.Remarking.{remarks_on}
use Rattle.live_session.proofs.turn.take_planned.Goals as goal
use Rattle.live_session.specs.Going.{TakesPlanned, said_in}
use Rattle.live_session.specs.Remarks.{Prepares, RemarksOn}
use Rattle.peer_session.specs.declared.steps.Step.{Step}

-- a block is read
pub returns-in-Read-clause-went : goal.returns-in-Read-clause-went
returns-in-Read-clause-went g c = λ w.
    subst (λ (step : Step). TakesPlanned w c.args.context.now.moment step c.args.live.now
    (said_in c.take_read.result) c.take_read.new.live) (sym c.in-Read.is)
    (c.take_read.ensures.went w)

-- any other step
pub returns-in_default-clause-seat : goal.returns-in_default-clause-seat
returns-in_default-clause-seat g c =
    let P : SessionSeat → Type 0 = λ s. IsSeatOf c.args.context.now.channels.now s in
    subst P (sym c.hear.ensures.seat) c.share-answer.ensures.seat

pub returns-in_default-clause-went : goal.returns-in_default-clause-went
returns-in_default-clause-went g c = λ w old plans rest.
    let share = c.share-answer in
    turned w old c.hear.new.live c.args.step c.args.context.now.moment
    c.args.live.now share.new.live share.result (said_in c.hear.result) c.requires.moment plans rest
    (share.ensures.shared w) share.ensures.place share.ensures.memory
    c.hear.ensures.heard c.hear.ensures.memory c.hear.ensures.rest

-- nothing is remarked of a read
pub returns-in-Read-clause-remark : goal.returns-in-Read-clause-remark
returns-in-Read-clause-remark g c =
    subst (λ (step : Step). RemarksOn c.args.context.now.channels.now step c.args.live.now
    c.take_read.result c.take_read.new.live c.args.remarks.now c.args.remarks.now)
    (sym c.in-Read.is) refl

-- any other step is remarked as it is answered
pub returns-in_default-clause-remark : goal.returns-in_default-clause-remark
returns-in_default-clause-remark g c =
    remarks_on c.args.context.now.channels.now c.args.step c.args.live.now c.hear.result
    c.hear.new.live c.args.remarks.now c.note.new.self c.in_default.not-Read
    (record {
      answer = c.share-answer.result;
      between = c.share-answer.new.live;
      mid = c.prepare.new.self;
      prepared = subst (λ (job : Option Job). Prepares c.args.remarks.now c.args.step job
          c.prepare.new.self) c.in_hand.ensures c.prepare.ensures;
      did = c.share-answer.ensures;
      heard = c.hear.ensures;
      remark = c.note.ensures.remark;
      left = c.note.ensures.left;
      wants = c.note.ensures.wants;
    })
