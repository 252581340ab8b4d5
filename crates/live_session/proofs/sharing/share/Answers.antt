use Rattle.std.proofs.Common.{refl, subst, sym}
use Rattle.live_jobs.specs.Seats.{IsSeatOf}
use Rattle.live_jobs.specs.declared.session.SessionSeat.{SessionSeat}
use Rattle.live_session.proofs.Sharings.{looked, nothing, offered, queued, refused, released}
use Rattle.live_session.proofs.Sharings.{taken_up}
use Rattle.live_session.proofs.sharing.share.Goals as goal
use Rattle.live_session.specs.Going.{IsStepRead, SharesFor}
use Rattle.live_session.specs.Turns.{DidStep}
use Rattle.peer_session.specs.declared.steps.Answer.TheVariants as answers
use Rattle.peer_session.specs.declared.steps.Step.{Step}
use Rattle.peer_session.specs.declared.steps.Step.TheVariants as steps
use Rattle.relay_model.specs.Terms.{Terms}

pub returns-in-Nothing : goal.returns-in-Nothing
returns-in-Nothing g c =
    let live = c.args.live.now in
    let P : Step → Type 0 = λ s. (w : Terms) → SharesFor w s live answers.Nothing live in
    record {
      seat = c.requires.seat;
      place = record { number = refl; end_is = refl };
      shared = subst P (sym c.in-Nothing.is)
          (λ w. nothing w live);
      reads = tt;
      slot = tt;
      push = tt;
      memory = λ same. record { session = refl; reads = refl; hands = refl };
    }

pub returns-in-Ok : goal.returns-in-Ok
returns-in-Ok g c =
    let live = c.args.live.now in
    let P : Step → Type 0 =
    λ s. (w : Terms) → SharesFor w s live (answers.Offer c.in-Ok.offer) live in
    record {
      seat = c.requires.seat;
      place = record { number = refl; end_is = refl };
      shared = subst P (sym c.in-Offer.is)
          (λ w. offered w live c.in-Offer.id c.in-Ok.offer);
      reads = tt;
      slot = tt;
      push = tt;
      memory = λ same. record { session = refl; reads = refl; hands = refl };
    }

pub returns-in-Look : goal.returns-in-Look
returns-in-Look g c =
    let live = c.args.live.now in
    let P : Step → Type 0 =
    λ s. (w : Terms) → SharesFor w s live (answers.Look c.look.result) live in
    record {
      seat = c.requires.seat;
      place = record { number = refl; end_is = refl };
      shared = subst P (sym c.in-Look.is)
          (λ w. looked w live c.in-Look.id c.look.result);
      reads = tt;
      slot = tt;
      push = tt;
      memory = λ same. record { session = refl; reads = refl; hands = refl };
    }

pub returns-in-Ok-take_queue : goal.returns-in-Ok-take_queue
returns-in-Ok-take_queue g c =
    let live = c.args.live.now in
    let P : Step → Type 0 =
    λ s. (w : Terms) → SharesFor w s live (answers.Queue c.in-Ok-take_queue.taken) live in
    record {
      seat = c.requires.seat;
      place = record { number = refl; end_is = refl };
      shared = subst P (sym c.in-TakeQueue.is)
          (λ w. queued w live c.in-TakeQueue.feed c.in-TakeQueue.most c.in-Ok-take_queue.taken
          c.in-Ok-take_queue.ensures);
      reads = tt;
      slot = tt;
      push = tt;
      memory = λ same. record { session = refl; reads = refl; hands = refl };
    }

pub returns-in-Ok-refuse : goal.returns-in-Ok-refuse
returns-in-Ok-refuse g c =
    let live = c.args.live.now in
    let P : Step → Type 0 = λ s. (w : Terms) → SharesFor w s live answers.Nothing live in
    record {
      seat = c.requires.seat;
      place = record { number = refl; end_is = refl };
      shared = subst P (sym c.in-Refuse.is)
          (λ w. refused w live c.in-Refuse.id c.in-Refuse.field-1);
      reads = tt;
      slot = tt;
      push = tt;
      memory = λ same. record { session = refl; reads = refl; hands = refl };
    }

pub returns-in-Ok-take : goal.returns-in-Ok-take
returns-in-Ok-take g c =
    let live = c.args.live.now in
    let P : Step → Type 0 =
    λ s. (w : Terms) → SharesFor w s live (answers.Take c.in-Ok-take.told) live in
    record {
      seat = c.requires.seat;
      place = record { number = refl; end_is = refl };
      shared = subst P (sym c.in-Take.is)
          (λ w. taken_up w live c.in-Take.id c.in-Ok-take.told c.in-Ok-take.ensures.once);
      reads = tt;
      slot = tt;
      push = tt;
      memory = λ same. record { session = refl; reads = refl; hands = refl };
    }

pub returns-in-Release : goal.returns-in-Release
returns-in-Release g c =
    let live = c.args.live.now in
    let P : Step → Type 0 = λ s. (w : Terms) → SharesFor w s live answers.Nothing live in
    record {
      seat = c.requires.seat;
      place = record { number = refl; end_is = refl };
      shared = subst P (sym c.in-Release.is)
          (λ w. released w live c.in-Release.id);
      reads = tt;
      slot = tt;
      push = tt;
      memory = λ same. record { session = refl; reads = refl; hands = refl };
    }

-- where memory was refused nothing was done
pub returns-in-Err : goal.returns-in-Err
returns-in-Err g c = record {
  seat = c.requires.seat;
  place = record { number = refl; end_is = refl };
  shared = λ w honest trusts m d gathered planned is fits other. absurd (other refl);
  reads = tt;
  slot = tt;
  push = tt;
  memory = λ same. record { session = refl; reads = refl; hands = refl };
}

pub returns-in-Err-take_queue : goal.returns-in-Err-take_queue
returns-in-Err-take_queue g c = record {
  seat = c.requires.seat;
  place = record { number = refl; end_is = refl };
  shared = λ w honest trusts m d gathered planned is fits other. absurd (other refl);
  reads = tt;
  slot = tt;
  push = tt;
  memory = λ same. record { session = refl; reads = refl; hands = refl };
}

pub returns-in-Err-refuse : goal.returns-in-Err-refuse
returns-in-Err-refuse g c = record {
  seat = c.requires.seat;
  place = record { number = refl; end_is = refl };
  shared = λ w honest trusts m d gathered planned is fits other. absurd (other refl);
  reads = tt;
  slot = tt;
  push = tt;
  memory = λ same. record { session = refl; reads = refl; hands = refl };
}

pub returns-in-Err-take : goal.returns-in-Err-take
returns-in-Err-take g c = record {
  seat = c.requires.seat;
  place = record { number = refl; end_is = refl };
  shared = λ w honest trusts m d gathered planned is fits other. absurd (other refl);
  reads = tt;
  slot = tt;
  push = tt;
  memory = λ same. record { session = refl; reads = refl; hands = refl };
}

pub returns-in-Push : goal.returns-in-Push
returns-in-Push g c =
    let live = c.args.live.now in
    let P : Step → Type 0 =
    λ s. DidStep c.args.context.now.channels.now s live c.push.result c.push.new.live in
    subst P (sym c.in-Push.is) (subst (λ n. P (steps.Push n)) c.from.ensures c.push.ensures.did)

pub returns-in-Slot : goal.returns-in-Slot
returns-in-Slot g c =
    let S : SessionSeat → Type 0 = λ s. IsSeatOf c.args.context.now.channels.now s in
    let P : Step → Type 0 =
    λ s. (w : Terms) →
    SharesFor w s c.args.live.now c.look_in_slot.result c.look_in_slot.new.live in
    record {
      seat = subst S (sym c.look_in_slot.ensures.seat) c.requires.seat;
      place = c.look_in_slot.ensures.place;
      shared = subst P (sym c.in-Slot.is) c.look_in_slot.ensures.shared;
      reads = subst (λ s. IsStepRead s c.look_in_slot.result c.args.live.now.reads.shown
          c.look_in_slot.new.live.reads.shown) (sym c.in-Slot.is) c.look_in_slot.ensures.reads;
      slot = c.look_in_slot.ensures.slot;
      push = c.look_in_slot.ensures.push _ _;
      memory = c.look_in_slot.ensures.memory;
    }
