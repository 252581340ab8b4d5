use Rattle.std.proofs.Common.{false, refl, true, ◌∙◌}
use Rattle.relay_model.specs.Run as run
use Rattle.relay_model.specs.Run.{is_reading}
use Rattle.relay_core.proofs.Dispatch.{is_lent}
use Rattle.relay_core.proofs.Refusing.{break_reason, never_refuses, not_refused, refused_first}
use Rattle.relay_core.proofs.SessionSteps.{broken, not_there}
use Rattle.relay_core.proofs.Turning.{place_of}
use Rattle.relay_core.specs.declared.event.CoreError.TheVariants as faults
use Rattle.relay_core.proofs.system.System.break_off.Goals as goal

-- no such session reads
pub returns-then-not-is_reading : goal.returns-then-not-is_reading
returns-then-not-is_reading g c =
    record {
      steps = not_there c.args.self.now c.args.number c.is_reading.result c.is_reading.ensures
          c.if-not-is_reading.true;
      refused = refused_first c.args.self.now (run.Break c.args.number) faults.NoSession
          (λ laned. break_reason c.args.self.now c.args.number c.is_reading.result false
          c.is_reading.ensures c.if-not-is_reading.true);
      frame = record { config = refl; group_writers = refl };
    }

pub returns-in-None : goal.returns-in-None
returns-in-None g c =
    is_lent is_reading c.args.number c.args.self.now.peers c.lend.new.self c.is_reading.result
    c.lend.result c.is_reading.ensures c.if-not-is_reading.false c.lend.ensures c.in-None.is

-- it leaves
pub returns-in-Some : goal.returns-in-Some
returns-in-Some g c =
    record {
      steps = broken c.args.self.now c.args.number c.new-in-Some.result c.is_reading.result
          c.in-Some.peer c.lend.result c.lend.new.self c.break_off.new.self c.give_back.new.self
          c.is_reading.ensures c.if-not-is_reading.false c.lend.ensures c.in-Some.is
          c.break_off.ensures
          (c.give_back.ensures.given
          (place_of c.args.number c.args.self.now.peers c.lend.result c.lend.new.self c.in-Some.peer
          c.lend.ensures c.in-Some.is)) (c.new-in-Some.ensures ∙ c.new.ensures.items);
      refused = not_refused c.args.self.now (run.Break c.args.number) _ _
          (λ laned. break_reason c.args.self.now c.args.number c.is_reading.result true
          c.is_reading.ensures c.if-not-is_reading.false)
          (λ fault is. never_refuses _ fault is refl);
      frame = record { config = refl; group_writers = refl };
    }
