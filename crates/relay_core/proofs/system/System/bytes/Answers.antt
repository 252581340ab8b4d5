use Rattle.std.proofs.Common.{ℕ, List, false, refl, subst, true}
use Rattle.peer_session.specs.Session.{Fed}
use Rattle.relay_model.specs.Run as run
use Rattle.relay_model.specs.Run.{is_reading}
use Rattle.relay_core.proofs.Dispatch.{is_lent}
use Rattle.relay_core.proofs.Refusing.{bytes_reason, memory_wanted, never_refuses, not_refused}
use Rattle.relay_core.proofs.Refusing.{refused_first}
use Rattle.relay_core.proofs.SessionSteps.{fed, not_reading, unfed, wanted}
use Rattle.relay_core.proofs.Turning.{place_of}
use Rattle.relay_core.specs.declared.event.CoreError.TheVariants as faults
use Rattle.relay_core.specs.declared.event.Output.TheVariants as outputs
use Rattle.relay_core.proofs.system.System.bytes.Goals as goal
use Rattle.block_shelf.specs.Leaving.{honestly}

-- no such session reads
pub returns-then-not-is_reading : goal.returns-then-not-is_reading
returns-then-not-is_reading g c =
    record {
      steps = not_reading c.args.self.now c.args.number c.args.piece.now c.is_reading.result
          c.is_reading.ensures c.if-not-is_reading.true;
      refused = refused_first c.args.self.now (run.Bytes c.args.number c.args.piece.now)
          faults.NoSession
          (λ laned. bytes_reason c.args.self.now c.args.number c.args.piece.now c.is_reading.result
          false c.is_reading.ensures c.if-not-is_reading.true);
      frame = record { config = refl; group_writers = refl };
    }

pub returns-in-None : goal.returns-in-None
returns-in-None g c =
    is_lent is_reading c.args.number c.args.self.now.peers c.lend.new.self c.is_reading.result
    c.lend.result c.is_reading.ensures c.if-not-is_reading.false c.lend.ensures c.in-None.is

-- the octets come to it
pub returns-in-Ok : goal.returns-in-Ok
returns-in-Ok g c =
    let P : List ℕ → Type 0 = λ piece. Fed c.in-Some.peer.session piece c.feed-fed.new.self in
    record {
      steps = fed c.args.self.now c.args.number c.args.piece.now c.is_reading.result c.in-Some.peer
          c.lend.result c.lend.new.self c.feed-fed.new.self c.give_back.new.self
          c.is_reading.ensures c.if-not-is_reading.false c.lend.ensures c.in-Some.is
          (subst P c.as_slice.ensures c.in-Ok.ensures.fed)
          (c.give_back.ensures.given
          (place_of c.args.number c.args.self.now.peers c.lend.result c.lend.new.self c.in-Some.peer
          c.lend.ensures c.in-Some.is));
      refused = not_refused c.args.self.now (run.Bytes c.args.number c.args.piece.now) outputs.Quiet
          _
          (λ laned. bytes_reason c.args.self.now c.args.number c.args.piece.now c.is_reading.result
          true c.is_reading.ensures c.if-not-is_reading.false)
          (λ fault is. never_refuses _ fault is refl);
      frame = record { config = refl; group_writers = refl };
    }

-- there is no memory for them
pub returns-in-Err : goal.returns-in-Err
returns-in-Err g c =
    record {
      steps = wanted c.args.self.now c.args.number (run.Bytes c.args.number c.args.piece.now) _ refl
          refl
          (λ leaving. unfed c.args.self.now c.args.number c.in-Some.peer c.lend.result
          c.lend.new.self
          c.feed-fed.new.self c.give_back.new.self c.lend.ensures c.in-Some.is c.in-Err.ensures.err
          (c.give_back.ensures.given
          (place_of c.args.number c.args.self.now.peers c.lend.result c.lend.new.self c.in-Some.peer
          c.lend.ensures c.in-Some.is)) (honestly leaving));
      refused = memory_wanted c.args.self.now (run.Bytes c.args.number c.args.piece.now) _
          (λ laned. bytes_reason c.args.self.now c.args.number c.args.piece.now c.is_reading.result
          true c.is_reading.ensures c.if-not-is_reading.false) refl
          (unfed c.args.self.now c.args.number c.in-Some.peer c.lend.result c.lend.new.self
          c.feed-fed.new.self c.give_back.new.self c.lend.ensures c.in-Some.is c.in-Err.ensures.err
          (c.give_back.ensures.given
          (place_of c.args.number c.args.self.now.peers c.lend.result c.lend.new.self c.in-Some.peer
          c.lend.ensures c.in-Some.is)));
      frame = record { config = refl; group_writers = refl };
    }
