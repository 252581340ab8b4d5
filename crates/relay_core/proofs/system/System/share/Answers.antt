use Rattle.std.proofs.Common.{ap, refl, subst, sym, ◌∙◌}
use Rattle.peer_session.specs.declared.steps.Answer.TheVariants as answers
use Rattle.peer_session.specs.declared.steps.Step.{Step}
use Rattle.peer_session.specs.declared.steps.Step.TheVariants as steps
use Rattle.relay_core.proofs.Arms.{claims_left, look_shared, none_shared, offer_shared}
use Rattle.relay_core.proofs.Arms.{queue_left, queue_shared, refuse_shared, release_shared}
use Rattle.relay_core.proofs.Arms.{slot_shared, take_shared}
use Rattle.relay_core.proofs.Dispatch.{never}
use Rattle.relay_core.specs.Sharing.{SharesStep, WantsMemory}
use Rattle.relay_core.proofs.system.System.share.Goals as goal

pub returns-in-Nothing : goal.returns-in-Nothing
returns-in-Nothing g c =
    record {
      shared = none_shared c.args.number c.args.now c.args.self.now c.args.peer.now
          c.args.step.now c.in-Nothing.is;
      memory = never answers.Nothing refl;
      wants = never answers.Nothing refl;
      frame = record { config = refl; group_writers = refl };
      peers = refl;
    }

pub returns-in-Ok : goal.returns-in-Ok
returns-in-Ok g c =
    record {
      shared = offer_shared c.args.number c.args.now c.args.self.now c.args.peer.now
          c.in-Offer.id c.in-Ok.answer c.offer.new.self c.in-Ok.ensures.answer
          c.in-Ok.ensures.claims c.args.step.now c.in-Offer.is;
      memory = never (answers.Offer c.in-Ok.answer) refl;
      wants = never (answers.Offer c.in-Ok.answer) refl;
      frame = record { config = refl; group_writers = refl };
      peers = refl;
    }

pub returns-in-Err : goal.returns-in-Err
returns-in-Err g c =
    record {
      shared = λ leaving x m d gathered but slot fits planned asked some. absurd (some refl);
      memory = λ memory. claims_left c.args.number c.args.now c.args.self.now c.args.peer.now
          c.offer.new.self c.in-Err.ensures.err;
      wants = λ memory. subst WantsMemory (sym c.in-Offer.is) tt;
      frame = record { config = refl; group_writers = refl };
      peers = refl;
    }

pub returns-in-Look : goal.returns-in-Look
returns-in-Look g c =
    record {
      shared = look_shared c.args.number c.args.now c.args.self.now c.args.peer.now c.in-Look.id
          c.look.result c.look.ensures c.args.step.now c.in-Look.is;
      memory = never (answers.Look c.look.result) refl;
      wants = never (answers.Look c.look.result) refl;
      frame = record { config = refl; group_writers = refl };
      peers = refl;
    }

pub returns-in-TakeQueue : goal.returns-in-TakeQueue
returns-in-TakeQueue g c =
    record {
      shared = queue_shared c.args.number c.args.now c.args.self.now c.args.peer.now
          c.in-TakeQueue.feed c.in-TakeQueue.most c.take.result c.queue_answer.result
          c.take.new.self c.queue_answer.ensures c.take.ensures.taken c.take.ensures.keeps
          c.take.ensures.missing.0 c.args.step.now c.in-TakeQueue.is;
      memory = queue_left c.args.number c.args.now c.args.self.now c.args.peer.now
          c.take.result c.queue_answer.result c.take.new.self c.queue_answer.ensures
          c.take.ensures.err;
      wants = λ memory. subst WantsMemory (sym c.in-TakeQueue.is) tt;
      frame = record { config = refl; group_writers = refl };
      peers = refl;
    }

pub returns-in-Ok-refuse : goal.returns-in-Ok-refuse
returns-in-Ok-refuse g c =
    record {
      shared = refuse_shared c.args.number c.args.now c.args.self.now c.args.peer.now
          c.in-Refuse.id c.refuse.new.self c.in-Ok-refuse.ensures.claims c.in-Refuse.field-1
          c.args.step.now
          c.in-Refuse.is;
      memory = never answers.Nothing refl;
      wants = never answers.Nothing refl;
      frame = record { config = refl; group_writers = refl };
      peers = refl;
    }

pub returns-in-Err-refuse : goal.returns-in-Err-refuse
returns-in-Err-refuse g c =
    record {
      shared = λ leaving x m d gathered but slot fits planned asked some. absurd (some refl);
      memory = λ memory. claims_left c.args.number c.args.now c.args.self.now c.args.peer.now
          c.refuse.new.self c.in-Err-refuse.ensures.err;
      wants = λ memory. subst WantsMemory (sym c.in-Refuse.is) tt;
      frame = record { config = refl; group_writers = refl };
      peers = refl;
    }

pub returns-in-Ok-take : goal.returns-in-Ok-take
returns-in-Ok-take g c =
    record {
      shared = take_shared c.args.number c.args.now c.args.self.now c.args.peer.now c.in-Take.id
          c.in-Ok-take.answer c.take-in-Take.new.self c.in-Ok-take.ensures.answer
          c.in-Ok-take.ensures.claims c.args.step.now c.in-Take.is;
      memory = never (answers.Take c.in-Ok-take.answer) refl;
      wants = never (answers.Take c.in-Ok-take.answer) refl;
      frame = record { config = refl; group_writers = refl };
      peers = refl;
    }

pub returns-in-Err-take : goal.returns-in-Err-take
returns-in-Err-take g c =
    record {
      shared = λ leaving x m d gathered but slot fits planned asked some. absurd (some refl);
      memory = λ memory. claims_left c.args.number c.args.now c.args.self.now c.args.peer.now
          c.take-in-Take.new.self c.in-Err-take.ensures.err;
      wants = λ memory. subst WantsMemory (sym c.in-Take.is) tt;
      frame = record { config = refl; group_writers = refl };
      peers = refl;
    }

pub returns-in-Push : goal.returns-in-Push
returns-in-Push g c =
    let P : Step → Type 0 = λ step. SharesStep c.args.number c.args.now step c.args.self.now
    c.args.peer.now c.push.result c.push.new.self c.push.new.peer in
    record {
      shared = subst P (ap steps.Push c.from.ensures ∙ sym c.in-Push.is) (c.push.ensures.shared
          c.args.number c.args.now);
      memory = c.push.ensures.memory c.args.number;
      wants = λ memory. absurd (c.push.ensures.never memory);
      frame = c.push.ensures.frame;
      peers = c.push.ensures.peers;
    }

pub returns-in-Slot : goal.returns-in-Slot
returns-in-Slot g c =
    record {
      shared = slot_shared c.args.number c.args.now c.args.self.now c.args.peer.now
          c.take-in-Slot.result c.take-in-Slot.new.self c.take-in-Slot.ensures.value
          c.take-in-Slot.ensures.after c.args.step.now c.in-Slot.is;
      memory = never (answers.Slot c.take-in-Slot.result) refl;
      wants = never (answers.Slot c.take-in-Slot.result) refl;
      frame = record { config = refl; group_writers = refl };
      peers = refl;
    }

pub returns-in-Release : goal.returns-in-Release
returns-in-Release g c =
    record {
      shared = release_shared c.args.number c.args.now c.args.self.now c.args.peer.now
          c.in-Release.id c.release.new.self c.release.ensures c.args.step.now c.in-Release.is;
      memory = never answers.Nothing refl;
      wants = never answers.Nothing refl;
      frame = record { config = refl; group_writers = refl };
      peers = refl;
    }
