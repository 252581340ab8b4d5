use Rattle.std.proofs.Common.{refl}
use Rattle.peer_session.specs.declared.steps.Answer.TheVariants as answers
use Rattle.peer_session.specs.declared.steps.Step.TheVariants as steps
use Rattle.relay_core.proofs.Dispatch.{never}
use Rattle.relay_core.proofs.ReadArm.{read_shared}
use Rattle.relay_core.proofs.system.System.take_read.Goals as goal

-- the session hears the chunk that the read gave
pub returns : goal.returns
returns g c now =
    let read = c.read_chunk-chunk in
    record {
      answer = answers.Chunk read.result;
      between = c.args.peer.now;
      shared = read_shared c.args.number now c.args.self.now c.args.peer.now c.args.token c.args.k
          read.result read.new.buffer_set read.ensures (steps.Read c.args.token c.args.k) refl;
      left = never (answers.Chunk read.result) refl;
      heard = c.hear.ensures.heard;
      memory = c.hear.ensures.memory;
      same_slot = refl;
      frame = record { config = refl; group_writers = refl };
      peers = refl;
    }
