use Rattle.std.proofs.Common.{◌∙◌, ap, refl, sym, subst}
use Rattle.article_verdict.specs.Config.{terms_of}
use Rattle.peer_session.specs.Planning.{Plans}
use Rattle.peer_session.specs.declared.phase.Phase.TheVariants as phases
use Rattle.peer_session.proofs.PlanAll.{free_in, none_owed, on_err, so_err, stands_same}
use Rattle.peer_session.proofs.PlanCommon.{if_ok, same_phase}
use Rattle.peer_session.proofs.PlanFetches.{plans_reading}
use Rattle.peer_session.proofs.PlanLeaving.{plans_leaving, rests_ended}
use Rattle.peer_session.proofs.PlanWaiting.{plans_held, plans_waiting}
use Rattle.peer_session.proofs.session.Session.due.Goals as goal

pub returns-in-Ready : goal.returns-in-Ready
returns-in-Ready c = record {
  due = c.command_due.ensures.due;
  err = c.command_due.ensures.err;
  free = λ free.
      let none = free_in (terms_of c.args.config.now).offers c.args.now c.args.self.now
      phases.Ready c.in-Ready.is free in
      c.command_due.ensures.free none.0 none.1;
  bounded = none_owed c.args.self.now.phase phases.Ready c.in-Ready.is refl;
}

pub returns-in-AwaitsBlock : goal.returns-in-AwaitsBlock
returns-in-AwaitsBlock c = record {
  due = c.block_due.ensures.due;
  err = c.block_due.ensures.err;
  free = λ free. c.block_due.ensures.free
      (free_in (terms_of c.args.config.now).offers c.args.now c.args.self.now
      (phases.AwaitsBlock c.in-AwaitsBlock.field-0 c.in-AwaitsBlock.field-1) c.in-AwaitsBlock.is
      free);
  bounded = λ owed. c.block_due.ensures.bounded;
}

pub returns-in-Holds : goal.returns-in-Holds
returns-in-Holds c =
    let w = terms_of c.args.config.now in
    let phase = phases.Holds c.in-Holds.id c.in-Holds.field-1 c.in-Holds.field-2 in
    record {
      due = if_ok _ _ c.held_due.result (λ due asked.
          same_phase w c.args.self.now c.args.now due phase c.in-Holds.is
          (plans_held w c.args.self.now c.args.now c.in-Holds.id c.in-Holds.field-1
          c.in-Holds.field-2 due c.in-Holds.is asked)) c.held_due.ensures;
      err = on_err c.held_due.result (stands_same c.args.self.now phase c.in-Holds.is);
      free = λ free. absurd (free_in (terms_of c.args.config.now).offers c.args.now c.args.self.now
          phase c.in-Holds.is free);
      bounded = none_owed c.args.self.now.phase phase c.in-Holds.is refl;
    }

pub returns-in-Waits : goal.returns-in-Waits
returns-in-Waits c = record {
  due = plans_waiting (terms_of c.args.config.now) c.args.self.now c.args.now c.in-Waits.field-0
      c.in-Waits.field-1 c.in-Waits.field-2 c.args.self.now.hand c.waiting_due.result c.in-Waits.is
      refl c.waiting_due.ensures;
  err = tt;
  free = λ free. refl;
  bounded = none_owed c.args.self.now.phase
      (phases.Waits c.in-Waits.field-0 c.in-Waits.field-1 c.in-Waits.field-2) c.in-Waits.is refl;
}

pub returns-in-Fetches : goal.returns-in-Fetches
returns-in-Fetches c =
    let phase = phases.Fetches c.in-Fetches.reading in
    record {
      due = if_ok _ _ c.reading_due.result (λ due asked.
          plans_reading (terms_of c.args.config.now) c.args.self.now c.args.now
          c.in-Fetches.reading c.reading_due.new.reading due c.in-Fetches.is asked)
          c.reading_due.ensures.due;
      err = so_err c.reading_due.result
          (λ same. stands_same c.args.self.now (phases.Fetches c.reading_due.new.reading)
          (c.in-Fetches.is ∙ ap phases.Fetches (sym same)))
          c.reading_due.ensures.err;
      free = λ free. c.reading_due.ensures.free
          (free_in (terms_of c.args.config.now).offers c.args.now c.args.self.now phase
          c.in-Fetches.is free);
      bounded = none_owed c.args.self.now.phase phase c.in-Fetches.is refl;
    }

pub returns-in-Leaving : goal.returns-in-Leaving
returns-in-Leaving c = record {
  due = if_ok _ _ c.leaving_due.result (λ due asked.
      plans_leaving (terms_of c.args.config.now) c.args.self.now c.args.now c.args.self.now.hand
      c.args.self.now.offers due c.in-Leaving.is refl refl asked) c.leaving_due.ensures.due;
  err = on_err c.leaving_due.result (λ w m gathered stands. stands);
  free = λ free. c.leaving_due.ensures.free
      (free_in (terms_of c.args.config.now).offers c.args.now c.args.self.now phases.Leaving
      c.in-Leaving.is free);
  bounded = none_owed c.args.self.now.phase phases.Leaving c.in-Leaving.is refl;
}

pub returns-in-Ended : goal.returns-in-Ended
returns-in-Ended c = record {
  due = subst (λ due. Plans (terms_of c.args.config.now) c.args.self.now c.args.now due
      c.args.self.now) (sym c.rest.ensures)
      (rests_ended (terms_of c.args.config.now) c.args.self.now c.args.now c.in-Ended.is);
  err = tt;
  free = λ free. refl;
  bounded = none_owed c.args.self.now.phase phases.Ended c.in-Ended.is refl;
}
