use Rattle.std.proofs.Common.{◌∙◌, Bool, ap, length, refl, subst, sym}
use Rattle.relay_model.specs.Run as run
use Rattle.block_shelf.specs.declared.restarting.RestartFault.TheVariants as restarts
use Rattle.relay_core.proofs.Restarts.{busy, done, later_none, never, no_room}
use Rattle.relay_core.proofs.Restarts.{not_idle, refused_there, rightly_busy, rightly_done}
use Rattle.relay_core.proofs.Restarts.{rightly_refused, rightly_there}
use Rattle.relay_core.specs.Idle.{TellsIdle}
use Rattle.relay_core.specs.Restarting.{IsUnread, RestartsRightly}
use Rattle.relay_core.specs.Stopping.{stop_of}
use Rattle.relay_core.specs.declared.event.CoreError.{CoreError}
use Rattle.relay_core.specs.declared.event.CoreError.TheVariants as faults
use Rattle.relay_core.specs.declared.event.Output.TheVariants as outputs
use Rattle.relay_core.specs.declared.system.System.{System}
use Rattle.relay_core.specs.Steps.{StepsAs}
use Rattle.relay_core.proofs.system.System.restart.Goals as goal

-- an id is being stored
pub returns-then-not-is_idle : goal.returns-then-not-is_idle
returns-then-not-is_idle g c =
    let storing = subst (λ (b : Bool). TellsIdle c.args.self.now.shards b)
    c.if-not-is_idle.true c.is_idle.ensures in
    record {
      steps = busy c.args.self.now storing;
      refused = rightly_busy c.args.self.now storing;
      frame = record { config = refl; group_writers = refl };
    }

-- there is no memory for the text, or for what is read
pub returns-in-Err-Memory : goal.returns-in-Err-Memory
returns-in-Err-Memory g c =
    let idle = subst (λ (b : Bool). TellsIdle c.args.self.now.shards b)
    c.if-not-is_idle.false c.is_idle.ensures in
    record {
      steps = no_room c.args.self.now;
      refused = rightly_refused c.args.self.now faults.Memory c.args.self.now idle tt
          (not_idle restarts.Memory) refl (later_none c.args.self.now);
      frame = record { config = refl; group_writers = refl };
    }

-- the own text can be read
pub returns-in-Err-BadHistory : goal.returns-in-Err-BadHistory
returns-in-Err-BadHistory g c =
    let idle = subst (λ (b : Bool). TellsIdle c.args.self.now.shards b)
    c.if-not-is_idle.false c.is_idle.ensures in
    record {
      steps = never c.args.self.now
          (subst (IsUnread c.args.self.now) c.in-Err-BadHistory.field-0-is
          c.in-Err-BadHistory.ensures.unread);
      refused = rightly_refused c.args.self.now faults.NotRestarted c.args.self.now idle tt
          (not_idle restarts.Busy) refl (later_none c.args.self.now);
      frame = record { config = refl; group_writers = refl };
    }

-- it is done
pub returns-in-Ok-restart : goal.returns-in-Ok-restart
returns-in-Ok-restart g c =
    let idle = subst (λ (b : Bool). TellsIdle c.args.self.now.shards b)
    c.if-not-is_idle.false c.is_idle.ensures in
    record {
      steps = done c.args.self.now c.restart.result c.restart.new.self c.in-Ok.desks
          c.next_stop-stop.result c.begin_again.new.self idle c.restart.ensures.keeps
          c.in-Ok.ensures.reread c.begin_again.ensures;
      refused = rightly_done c.args.self.now c.begin_again.new.self idle
          (ap stop_of c.begin_again.ensures.rest ∙ c.next_stop-stop.ensures);
      frame = record {
        config = ap (λ (s : System _ _). s.config) c.begin_again.ensures.rest;
        group_writers = ap (λ (s : System _ _). length s.group_writers.items)
            c.begin_again.ensures.rest ∙ c.in-Ok.ensures.reread.group_writers.count_is;
      };
    }

-- a buffer isn't restarted
pub returns-in-Err : goal.returns-in-Err
returns-in-Err g c =
    let idle = subst (λ (b : Bool). TellsIdle c.args.self.now.shards b)
    c.if-not-is_idle.false c.is_idle.ensures in
    record {
      steps = subst
          (λ (e : CoreError). StepsAs run.Restart c.args.self.now (outputs.Refused e)
          (record c.args.self.now { buffer_set = c.restart.new.self })) (sym c.refused_as.ensures)
          (refused_there c.args.self.now c.restart.result c.in-Err.fault c.restart.new.self idle
          c.restart.ensures.keeps c.in-Err.is);
      refused = subst
          (λ (e : CoreError). RestartsRightly c.args.self.now (outputs.Refused e)
          (record c.args.self.now { buffer_set = c.restart.new.self })) (sym c.refused_as.ensures)
          (rightly_there c.args.self.now c.restart.result c.in-Err.fault c.restart.new.self idle
          c.restart.ensures.keeps);
      frame = record { config = refl; group_writers = refl };
    }
