use Rattle.std.proofs.Common.{refl}
use Rattle.relay_core.proofs.Writings.{not_settled, settled_one}
use Rattle.relay_core.proofs.system.System.settle.Goals as goal

-- the job is settled
pub returns-in-Some : goal.returns-in-Some
returns-in-Some g c =
    record {
      advances = λ group. settled_one group c.args.now c.args.job c.args.self.now c.args.token
          c.args.now c.in-Some.settled c.settle.new.self c.post.new.self c.deref.result.now refl
          c.deref.ensures.value c.in-Some.ensures.claims c.in-Some.ensures.token c.post.ensures;
      frame = record { config = refl; group_writers = refl };
    }

-- an id that is being stored can be settled
pub returns-in-None : goal.returns-in-None
returns-in-None g c =
    record {
      advances = λ group. not_settled group c.args.now c.args.job c.args.self.now c.args.token
          c.settle.result c.in-None.is c.settle.ensures.answer;
      frame = record { config = refl; group_writers = refl };
    }
