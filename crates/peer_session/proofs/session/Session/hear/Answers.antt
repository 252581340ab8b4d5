use Rattle.std.proofs.Common.{ap, List, ℕ, refl, Some, subst, sym}
use Rattle.peer_session.specs.Answers.{IsOther}
use Rattle.peer_session.specs.Hearing.{Heeds}
use Rattle.peer_session.specs.declared.phase.Todo.TheVariants as todos
use Rattle.peer_session.proofs.GivenReads.{given_first, given_on, not_read}
use Rattle.peer_session.proofs.HearBlocks.{refuses, takes}
use Rattle.peer_session.proofs.HearCommon.{rests, was_planned, with_planned}
use Rattle.peer_session.proofs.HearFetches.{looks, reads_first, reads_on, takes_queue}
use Rattle.peer_session.proofs.HearLeaving.{ends, releases}
use Rattle.peer_session.proofs.HearLines.{checks, leaves_with, not_ihave, offers, owes, replies}
use Rattle.peer_session.proofs.HearWaiting.{looks_in_slot, pushes, takes_held}
use Rattle.peer_session.proofs.session.Session.hear.Goals as goal

pub returns-in-Rest : goal.returns-in-Rest
returns-in-Rest c =
    let had = with_planned c.args.self.now c.args.planned in
    record {
      heard = subst (λ said. Heeds c.args.number had c.args.answer said
          (with_planned had c.args.self.now.planned)) (sym c.unheard.ensures)
          (rests c.args.number had c.args.answer c.args.self.now.planned
          c.args.planned.read
          (was_planned had c.args.planned _ refl c.in-Rest.is));
      given = not_read had (with_planned had c.args.self.now.planned) c.args.answer
          c.unheard.result.items todos.Rest c.args.planned.read refl
          (was_planned had c.args.planned _ refl c.in-Rest.is);
      other = λ other. (c.unheard.ensures, refl);
    }

pub returns-in-Push : goal.returns-in-Push
returns-in-Push c =
    let had = with_planned c.args.self.now c.args.planned in
    record {
      heard = subst (λ said. Heeds c.args.number had c.args.answer said
          (with_planned had c.args.self.now.planned)) (sym c.unheard-in-Push.ensures)
          (pushes c.args.number had c.args.answer c.args.self.now.planned
          c.args.planned.read
          (was_planned had c.args.planned _ refl c.in-Push.is));
      given = not_read had (with_planned had c.args.self.now.planned) c.args.answer
          c.unheard-in-Push.result.items todos.Push c.args.planned.read refl
          (was_planned had c.args.planned _ refl c.in-Push.is);
      other = λ other. (c.unheard-in-Push.ensures, refl);
    }

pub returns-in-Owe : goal.returns-in-Owe
returns-in-Owe c =
    let had = with_planned c.args.self.now c.args.planned in
    record {
      heard = owes c.args.number had c.hear_owed.new.self c.args.answer c.hear_owed.result.items
          c.args.self.now.planned c.args.planned.read c.in-Owe.id
          (was_planned had c.args.planned _ refl c.in-Owe.is)
          c.hear_owed.ensures.heard;
      given = not_read had c.hear_owed.new.self c.args.answer c.hear_owed.result.items
          (todos.Owe c.in-Owe.id) c.args.planned.read refl
          (was_planned had c.args.planned _ refl c.in-Owe.is);
      other = λ other. c.hear_owed.ensures.other
          (subst (λ todo. IsOther todo c.args.answer) c.in-Owe.is other);
    }

pub returns-in-Say : goal.returns-in-Say
returns-in-Say c =
    let had = with_planned c.args.self.now c.args.planned in
    record {
      heard = replies c.args.number had c.hear_said.new.self c.args.answer
          c.hear_said.result.items
          c.args.self.now.planned c.args.planned.read c.in-Say.octets
          (was_planned had c.args.planned _ refl c.in-Say.is)
          c.hear_said.ensures.heard;
      given = not_read had c.hear_said.new.self c.args.answer c.hear_said.result.items
          (todos.Say c.in-Say.octets) c.args.planned.read refl
          (was_planned had c.args.planned _ refl c.in-Say.is);
      other = λ other. c.hear_said.ensures.other
          (subst (λ todo. IsOther todo c.args.answer) c.in-Say.is other);
    }

pub returns-in-Leave : goal.returns-in-Leave
returns-in-Leave c =
    let had = with_planned c.args.self.now c.args.planned in
    record {
      heard = leaves_with c.args.number had c.hear_left.new.self c.args.answer
          c.hear_left.result.items
          c.args.self.now.planned c.args.planned.read c.in-Leave.octets
          (was_planned had c.args.planned _ refl c.in-Leave.is)
          c.hear_left.ensures.heard;
      given = not_read had c.hear_left.new.self c.args.answer c.hear_left.result.items
          (todos.Leave c.in-Leave.octets) c.args.planned.read refl
          (was_planned had c.args.planned _ refl c.in-Leave.is);
      other = λ other. c.hear_left.ensures.other
          (subst (λ todo. IsOther todo c.args.answer) c.in-Leave.is other);
    }

pub returns-in-Check : goal.returns-in-Check
returns-in-Check c =
    let had = with_planned c.args.self.now c.args.planned in
    record {
      heard = checks c.args.number had c.hear_offer.new.self c.args.answer
          c.hear_offer.result.items
          c.args.self.now.planned c.args.planned.read c.in-Check.id c.in-Check.room
          c.in-Check.since
          (was_planned had c.args.planned _ refl c.in-Check.is)
          (λ told is free ready. c.hear_offer.ensures.heard told is not_ihave free ready);
      given = not_read had c.hear_offer.new.self c.args.answer c.hear_offer.result.items
          (todos.Check c.in-Check.id c.in-Check.room c.in-Check.since) c.args.planned.read refl
          (was_planned had c.args.planned _ refl c.in-Check.is);
      other = λ other. c.hear_offer.ensures.other
          (subst (λ todo. IsOther todo c.args.answer) c.in-Check.is other);
    }

pub returns-in-Ihave : goal.returns-in-Ihave
returns-in-Ihave c =
    let had = with_planned c.args.self.now c.args.planned in
    record {
      heard = offers c.args.number had c.hear_offer-in-Ihave.new.self c.args.answer
          c.hear_offer-in-Ihave.result.items
          c.args.self.now.planned c.args.planned.read c.in-Ihave.id c.in-Ihave.copy c.in-Ihave.room
          c.in-Ihave.since
          (was_planned had c.args.planned _ refl c.in-Ihave.is)
          (λ told is same free ready.
          c.hear_offer-in-Ihave.ensures.heard told is (λ has. ap (λ (x : List ℕ). Some x) same) free
          ready);
      given = not_read had c.hear_offer-in-Ihave.new.self c.args.answer
          c.hear_offer-in-Ihave.result.items
          (todos.Ihave c.in-Ihave.id c.in-Ihave.copy c.in-Ihave.room c.in-Ihave.since)
          c.args.planned.read refl
          (was_planned had c.args.planned _ refl c.in-Ihave.is);
      other = λ other. c.hear_offer-in-Ihave.ensures.other
          (subst (λ todo. IsOther todo c.args.answer) c.in-Ihave.is other);
    }

pub returns-in-Look : goal.returns-in-Look
returns-in-Look c =
    let had = with_planned c.args.self.now c.args.planned in
    record {
      heard = looks c.args.number had c.hear_look.new.self c.args.answer c.hear_look.result.items
          c.args.self.now.planned c.args.planned.read c.in-Look.part c.in-Look.id c.in-Look.room
          (was_planned had c.args.planned _ refl c.in-Look.is)
          c.hear_look.ensures.heard;
      given = not_read had c.hear_look.new.self c.args.answer c.hear_look.result.items
          (todos.Look c.in-Look.part c.in-Look.id c.in-Look.room) c.args.planned.read refl
          (was_planned had c.args.planned _ refl c.in-Look.is);
      other = λ other. c.hear_look.ensures.other
          (subst (λ todo. IsOther todo c.args.answer) c.in-Look.is other);
    }

pub returns-in-Fetch : goal.returns-in-Fetch
returns-in-Fetch c =
    let had = with_planned c.args.self.now c.args.planned in
    record {
      heard = reads_first c.args.number had c.hear_first.new.self c.args.answer
          c.hear_first.result.items
          c.args.self.now.planned c.args.planned.read c.in-Fetch.reading
          (was_planned had c.args.planned _ refl c.in-Fetch.is)
          c.hear_first.ensures.heard;
      given = given_first had c.hear_first.new.self c.args.answer c.hear_first.result.items
          c.args.self.now.planned c.args.planned.read c.in-Fetch.reading
          (was_planned had c.args.planned _ refl c.in-Fetch.is)
          c.hear_first.ensures.given;
      other = λ other. c.hear_first.ensures.other
          (subst (λ todo. IsOther todo c.args.answer) c.in-Fetch.is other);
    }

pub returns-in-ReadOn : goal.returns-in-ReadOn
returns-in-ReadOn c =
    let had = with_planned c.args.self.now c.args.planned in
    record {
      heard = reads_on c.args.number had c.hear_next.new.self c.args.answer
          c.hear_next.result.items
          c.args.self.now.planned c.args.planned.read
          (was_planned had c.args.planned _ refl
          c.in-ReadOn.is)
          c.hear_next.ensures.heard;
      given = given_on had c.hear_next.new.self c.args.answer c.hear_next.result.items
          c.args.self.now.planned c.args.planned.read
          (was_planned had c.args.planned _ refl
          c.in-ReadOn.is)
          c.hear_next.ensures.given;
      other = λ other. c.hear_next.ensures.other
          (subst (λ todo. IsOther todo c.args.answer) c.in-ReadOn.is other);
    }

pub returns-in-Queue : goal.returns-in-Queue
returns-in-Queue c =
    let had = with_planned c.args.self.now c.args.planned in
    record {
      heard = takes_queue c.args.number had c.hear_queue.new.self c.args.answer
          c.hear_queue.result.items
          c.args.self.now.planned c.args.planned.read c.in-Queue.room
          (was_planned had c.args.planned _ refl c.in-Queue.is)
          c.hear_queue.ensures.heard;
      given = not_read had c.hear_queue.new.self c.args.answer c.hear_queue.result.items
          (todos.Queue c.in-Queue.room) c.args.planned.read refl
          (was_planned had c.args.planned _ refl c.in-Queue.is);
      other = λ other. c.hear_queue.ensures.other
          (subst (λ todo. IsOther todo c.args.answer) c.in-Queue.is other);
    }

pub returns-in-Refuse : goal.returns-in-Refuse
returns-in-Refuse c =
    let had = with_planned c.args.self.now c.args.planned in
    record {
      heard = refuses c.args.number had c.hear_refused.new.self c.args.answer
          c.hear_refused.result.items
          c.args.self.now.planned c.args.planned.read c.in-Refuse.room
          (was_planned had c.args.planned _ refl
          c.in-Refuse.is)
          c.hear_refused.ensures.heard;
      given = not_read had c.hear_refused.new.self c.args.answer c.hear_refused.result.items
          (todos.Refuse c.in-Refuse.room) c.args.planned.read refl
          (was_planned had c.args.planned _ refl
          c.in-Refuse.is);
      other = λ other. c.hear_refused.ensures.other
          (subst (λ todo. IsOther todo c.args.answer) c.in-Refuse.is other);
    }

pub returns-in-Take : goal.returns-in-Take
returns-in-Take c =
    let had = with_planned c.args.self.now c.args.planned in
    record {
      heard = takes c.args.number had c.hear_taken.new.self c.args.answer
          c.hear_taken.result.items
          c.args.self.now.planned c.args.planned.read c.in-Take.copy c.in-Take.article
          c.in-Take.room
          (was_planned had c.args.planned _ refl c.in-Take.is)
          c.hear_taken.ensures.heard;
      given = not_read had c.hear_taken.new.self c.args.answer c.hear_taken.result.items
          (todos.Take c.in-Take.copy c.in-Take.article c.in-Take.room) c.args.planned.read refl
          (was_planned had c.args.planned _ refl c.in-Take.is);
      other = λ other. c.hear_taken.ensures.other
          (subst (λ todo. IsOther todo c.args.answer) c.in-Take.is other);
    }

pub returns-in-TakeHeld : goal.returns-in-TakeHeld
returns-in-TakeHeld c =
    let had = with_planned c.args.self.now c.args.planned in
    record {
      heard = takes_held c.args.number had c.hear_held.new.self c.args.answer
          c.hear_held.result.items
          c.args.self.now.planned c.args.planned.read c.in-TakeHeld.copy
          (was_planned had c.args.planned _ refl
          c.in-TakeHeld.is)
          c.hear_held.ensures.heard;
      given = not_read had c.hear_held.new.self c.args.answer c.hear_held.result.items
          (todos.TakeHeld c.in-TakeHeld.copy) c.args.planned.read refl
          (was_planned had c.args.planned _ refl
          c.in-TakeHeld.is);
      other = λ other. c.hear_held.ensures.other
          (subst (λ todo. IsOther todo c.args.answer) c.in-TakeHeld.is other);
    }

pub returns-in-Slot : goal.returns-in-Slot
returns-in-Slot c =
    let had = with_planned c.args.self.now c.args.planned in
    record {
      heard = looks_in_slot c.args.number had c.hear_slot.new.self c.args.answer
          c.hear_slot.result.items
          c.args.self.now.planned c.args.planned.read
          (was_planned had c.args.planned _ refl c.in-Slot.is)
          c.hear_slot.ensures.heard;
      given = not_read had c.hear_slot.new.self c.args.answer c.hear_slot.result.items
          todos.Slot c.args.planned.read refl
          (was_planned had c.args.planned _ refl c.in-Slot.is);
      other = λ other. c.hear_slot.ensures.other
          (subst (λ todo. IsOther todo c.args.answer) c.in-Slot.is other);
    }

pub returns-in-Release : goal.returns-in-Release
returns-in-Release c =
    let had = with_planned c.args.self.now c.args.planned in
    record {
      heard = releases c.args.number had c.hear_released.new.self c.args.answer
          c.hear_released.result.items
          c.args.self.now.planned c.args.planned.read
          (was_planned had c.args.planned _ refl
          c.in-Release.is)
          c.hear_released.ensures.heard;
      given = not_read had c.hear_released.new.self c.args.answer c.hear_released.result.items
          todos.Release c.args.planned.read refl
          (was_planned had c.args.planned _ refl
          c.in-Release.is);
      other = λ other. c.hear_released.ensures.other
          (subst (λ todo. IsOther todo c.args.answer) c.in-Release.is other);
    }

pub returns-in-End : goal.returns-in-End
returns-in-End c =
    let had = with_planned c.args.self.now c.args.planned in
    record {
      heard = ends c.args.number had c.hear_ended.new.self c.args.answer c.hear_ended.result.items
          c.args.self.now.planned c.args.planned.read
          (was_planned had c.args.planned _ refl c.in-End.is)
          c.hear_ended.ensures.heard;
      given = not_read had c.hear_ended.new.self c.args.answer c.hear_ended.result.items
          todos.End c.args.planned.read refl
          (was_planned had c.args.planned _ refl c.in-End.is);
      other = λ other. c.hear_ended.ensures.other
          (subst (λ todo. IsOther todo c.args.answer) c.in-End.is other);
    }

-- what hears an answer asks nothing
pub hear_owed-requires : goal.hear_owed-requires
hear_owed-requires c = tt

pub hear_said-requires : goal.hear_said-requires
hear_said-requires c = tt

pub hear_left-requires : goal.hear_left-requires
hear_left-requires c = tt

pub hear_offer-requires : goal.hear_offer-requires
hear_offer-requires c = tt

pub hear_offer-requires-in-Ihave : goal.hear_offer-requires-in-Ihave
hear_offer-requires-in-Ihave c = tt

pub hear_look-requires : goal.hear_look-requires
hear_look-requires c = tt

pub hear_first-requires : goal.hear_first-requires
hear_first-requires c = tt

pub hear_next-requires : goal.hear_next-requires
hear_next-requires c = tt

pub hear_queue-requires : goal.hear_queue-requires
hear_queue-requires c = tt

pub hear_refused-requires : goal.hear_refused-requires
hear_refused-requires c = tt

pub hear_taken-requires : goal.hear_taken-requires
hear_taken-requires c = tt

pub hear_held-requires : goal.hear_held-requires
hear_held-requires c = tt

pub hear_slot-requires : goal.hear_slot-requires
hear_slot-requires c = tt

pub hear_released-requires : goal.hear_released-requires
hear_released-requires c = tt

pub hear_ended-requires : goal.hear_ended-requires
hear_ended-requires c = tt
