use Rattle.std.proofs.Common.{refl}
use Rattle.article_verdict.specs.Config.{terms_of}
use Rattle.relay_core.proofs.Serving.{served, stood_still}
use Rattle.relay_core.proofs.system.System.serve.Goals as goal

-- a plan and its step make a Turn
pub returns-in-Ok : goal.returns-in-Ok
returns-in-Ok g c =
    let taken = c.take_step.ensures in
    record {
      served = served c.args.number c.args.now c.args.self.now c.args.peer.now c.plan.new.self
          c.in-Ok.step c.take_step.new.self c.take_step.new.peer c.take_step.result
          c.in-Ok.ensures.due taken;
      memory = stood_still c.args.number c.args.now c.args.self.now c.args.peer.now c.plan.new.self
          c.in-Ok.step c.take_step.new.self c.take_step.new.peer c.take_step.result
          c.in-Ok.ensures.due taken;
      only = λ fault is. taken.memory.told (taken.memory.only fault is);
      frame = taken.frame;
      peers = taken.peers;
    }

-- a plan without memory leaves the session as it was
pub returns-in-Err : goal.returns-in-Err
returns-in-Err g c =
    record {
      served = λ leaving x m but there stands well other. absurd (other refl);
      memory = λ memory.
          record {
            agrees = λ trusted w x but. but;
            stands = λ m gathered stands.
                c.in-Err.ensures.err (terms_of c.args.self.now.config) m gathered stands;
            slot = refl;
          };
      only = λ fault is. refl;
      frame = record { config = refl; group_writers = refl };
      peers = refl;
    }
