use Rattle.std.proofs.Common.{Option, refl, subst, sym}
use Rattle.peer_session.specs.declared.steps.Step.{Step}
use Rattle.relay_model.specs.Terms.{Reason}
use Rattle.relay_core.specs.Turns.{HeardAs, StepTaken}
use Rattle.relay_core.proofs.system.System.take_step.Goals as goal

-- a block is read
pub returns-in-Read : goal.returns-in-Read
returns-in-Read g c =
    subst (λ (step : Step). StepTaken c.args.number c.args.now step c.args.self.now
    c.args.peer.now c.take_read.result c.take_read.new.self c.take_read.new.peer)
    (sym c.in-Read.is) (c.take_read.ensures c.args.now)

-- any other step
pub returns-in_default : goal.returns-in_default
returns-in_default g c =
    record {
      answer = c.share-answer.result;
      between = c.share-answer.new.peer;
      shared = c.share-answer.ensures.shared;
      left = c.share-answer.ensures.memory;
      heard = subst (λ (why : Option Reason). HeardAs c.args.number why
          c.share-answer.new.peer.session c.share-answer.result c.hear.result c.hear.new.session)
          c.reason-why.ensures c.hear.ensures.heard;
      memory = c.hear.ensures.memory;
      same_slot = refl;
      frame = c.share-answer.ensures.frame;
      peers = c.share-answer.ensures.peers;
    }
