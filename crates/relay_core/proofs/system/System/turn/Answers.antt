use Rattle.std.proofs.Common.{refl, subst, sym}
use Rattle.relay_model.specs.Run as run
use Rattle.relay_core.specs.Peers.{HasPlace}
use Rattle.relay_core.specs.declared.peers.Peers.{Peers}
use Rattle.relay_model.specs.Run.{is_running}
use Rattle.relay_core.proofs.Dispatch.{is_lent}
use Rattle.relay_core.proofs.Refusing as refusing
use Rattle.relay_core.proofs.Refusing.{refused_first, refused_last, turn_open}
use Rattle.relay_core.proofs.Turning.{back_is, none_runs, place_of, still, too_late, turned}
use Rattle.relay_core.specs.declared.event.CoreError.TheVariants as faults
use Rattle.relay_core.proofs.system.System.turn.Goals as goal

-- no such session runs
pub returns-then-not-is_running : goal.returns-then-not-is_running
returns-then-not-is_running g c =
    record {
      steps = none_runs c.args.self.now c.args.number c.args.now c.is_running.result
          c.is_running.ensures c.if-not-is_running.true;
      refused = refused_first c.args.self.now (run.Turn c.args.number c.args.now) faults.NoSession
          (λ laned. refusing.none_runs c.args.self.now c.args.number c.args.now c.is_running.result
          c.is_running.ensures c.if-not-is_running.true);
      frame = record { config = refl; group_writers = refl };
    }

pub returns-in-None : goal.returns-in-None
returns-in-None g c =
    is_lent is_running c.args.number c.args.self.now.peers c.lend.new.self c.is_running.result
    c.lend.result c.is_running.ensures c.if-not-is_running.false c.lend.ensures c.in-None.is

-- it is too late
pub returns-then-now-gt-LAST_MOMENT : goal.returns-then-now-gt-LAST_MOMENT
returns-then-now-gt-LAST_MOMENT g c =
    record {
      steps = too_late c.args.self.now c.args.number c.args.now c.is_running.result
          c.is_running.ensures c.if-not-is_running.false c.if-now-gt-LAST_MOMENT.true;
      refused = refused_first c.args.self.now (run.Turn c.args.number c.args.now) faults.BadMoment
          (λ laned. refusing.late_turn c.args.self.now c.args.number c.args.now c.is_running.result
          c.is_running.ensures c.if-not-is_running.false c.if-now-gt-LAST_MOMENT.true);
      frame = record { config = refl; group_writers = refl };
    }

-- it has its Turn, and is refused for want of memory alone
pub returns-in-Some : goal.returns-in-Some
returns-in-Some g c =
    let place = subst (λ (peers : Peers). HasPlace peers c.args.number)
    (sym c.serve-output.ensures.peers)
    (place_of c.args.number c.args.self.now.peers c.lend.result c.lend.new.self
    c.in-Some.peer c.lend.ensures c.in-Some.is) in
    let back = back_is c.args.number c.serve-output.new.peer c.serve-output.new.self.peers
    c.take_back.new.peers _ refl (c.take_back.ensures place) in
    record {
      steps = turned c.args.self.now c.args.number c.args.now c.is_running.result c.in-Some.peer
          c.lend.result c.lend.new.self c.serve-output.result c.serve-output.new.self
          c.serve-output.new.peer c.take_back.new.peers c.is_running.ensures
          c.if-not-is_running.false c.if-now-gt-LAST_MOMENT.false c.lend.ensures c.in-Some.is
          c.serve-output.ensures.served c.serve-output.ensures.memory
          c.serve-output.ensures.frame.config back;
      refused = refused_last c.args.self.now (run.Turn c.args.number c.args.now)
          c.serve-output.result _
          (λ laned. turn_open c.args.self.now c.args.number c.args.now c.is_running.result
          c.is_running.ensures c.if-not-is_running.false c.if-now-gt-LAST_MOMENT.false)
          c.serve-output.ensures.only (λ memory. refl)
          (λ memory. still c.args.self.now c.args.number c.in-Some.peer c.lend.result
          c.lend.new.self c.serve-output.new.self c.serve-output.new.peer c.take_back.new.peers
          c.lend.ensures c.in-Some.is (c.serve-output.ensures.memory memory)
          c.serve-output.ensures.frame.config back);
      frame = record {
        config = c.serve-output.ensures.frame.config;
        group_writers = c.serve-output.ensures.frame.group_writers;
      };
    }
