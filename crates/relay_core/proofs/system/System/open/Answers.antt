use Rattle.std.proofs.Common.{◌<◌, ◌≤◌, ℕ, refl, subst, ◌∙◌}
use Rattle.relay_model.specs.Run as run
use Rattle.relay_core.proofs.Refusing as refusing
use Rattle.relay_core.proofs.Refusing.{may_open, memory_wanted, never_refuses, not_refused}
use Rattle.relay_core.proofs.Refusing.{refused_first}
use Rattle.relay_core.proofs.SessionSteps.{no_peer, opened_one, peers_count, unopened, wanted}
use Rattle.relay_core.proofs.SessionSteps.{was_taken}
use Rattle.relay_core.specs.declared.event.CoreError.TheVariants as faults
use Rattle.relay_core.proofs.system.System.open.Goals as goal
use Rattle.block_shelf.specs.Leaving.{honestly}

-- the number was had before
pub returns-then-is_taken : goal.returns-then-is_taken
returns-then-is_taken g c =
    record {
      steps = was_taken c.args.self.now c.args.number c.args.peer c.is_taken.result
          c.is_taken.ensures c.if-is_taken.true;
      refused = refused_first c.args.self.now (run.Open c.args.number c.args.peer)
          faults.SessionTaken
          (λ laned. refusing.was_taken c.args.self.now c.args.number c.args.peer c.is_taken.result
          c.is_taken.ensures c.if-is_taken.true);
      frame = record { config = refl; group_writers = refl };
    }

-- there is no such peer
pub returns-then-peer-len : goal.returns-then-peer-len
returns-then-peer-len g c =
    record {
      steps = no_peer c.args.self.now c.args.number c.args.peer c.is_taken.result c.is_taken.ensures
          c.if-is_taken.false
          (subst (λ (k : ℕ). k ≤ c.args.peer) (c.len.ensures ∙ peers_count c.args.self.now.config)
          c.if-peer-len.true);
      refused = refused_first c.args.self.now (run.Open c.args.number c.args.peer) faults.NoPeer
          (λ laned. refusing.no_peer c.args.self.now c.args.number c.args.peer c.is_taken.result
          c.is_taken.ensures c.if-is_taken.false
          (subst (λ (k : ℕ). k ≤ c.args.peer) (c.len.ensures ∙ peers_count c.args.self.now.config)
          c.if-peer-len.true));
      frame = record { config = refl; group_writers = refl };
    }

-- there is no memory for its greeting
pub returns-in-Err : goal.returns-in-Err
returns-in-Err g c =
    record {
      steps = wanted c.args.self.now c.args.number (run.Open c.args.number c.args.peer) _ refl refl
          (λ leaving x agrees. agrees);
      refused = memory_wanted c.args.self.now (run.Open c.args.number c.args.peer) _
          (λ laned. may_open c.args.self.now c.args.number c.args.peer c.is_taken.result
          c.is_taken.ensures c.if-is_taken.false
          (subst (λ (k : ℕ). c.args.peer < k) (c.len.ensures ∙ peers_count c.args.self.now.config)
          c.if-peer-len.false)) refl (λ trusted x agrees. agrees);
      frame = record { config = refl; group_writers = refl };
    }

-- there is no memory for it
pub returns-in-Err-open : goal.returns-in-Err-open
returns-in-Err-open g c =
    record {
      steps = wanted c.args.self.now c.args.number (run.Open c.args.number c.args.peer) _ refl refl
          (λ leaving x agrees. agrees);
      refused = memory_wanted c.args.self.now (run.Open c.args.number c.args.peer) _
          (λ laned. may_open c.args.self.now c.args.number c.args.peer c.is_taken.result
          c.is_taken.ensures c.if-is_taken.false
          (subst (λ (k : ℕ). c.args.peer < k) (c.len.ensures ∙ peers_count c.args.self.now.config)
          c.if-peer-len.false)) refl (λ trusted x agrees. agrees);
      frame = record { config = refl; group_writers = refl };
    }

-- the session opens
pub returns-in-Ok-open-2 : goal.returns-in-Ok-open-2
returns-in-Ok-open-2 g c =
    record {
      steps = opened_one c.args.self.now c.args.number c.args.peer c.is_taken.result
          c.in-Ok-open.session c.new.result c.open-2.new.self c.is_taken.ensures c.if-is_taken.false
          (subst (λ (k : ℕ). c.args.peer < k) (c.len.ensures ∙ peers_count c.args.self.now.config)
          c.if-peer-len.false) c.in-Ok-open.ensures (c.new.ensures ∙ c.in-Ok.ensures)
          c.in-Ok-open-2.ensures.opened;
      refused = not_refused c.args.self.now (run.Open c.args.number c.args.peer) _ _
          (λ laned. may_open c.args.self.now c.args.number c.args.peer c.is_taken.result
          c.is_taken.ensures c.if-is_taken.false
          (subst (λ (k : ℕ). c.args.peer < k) (c.len.ensures ∙ peers_count c.args.self.now.config)
          c.if-peer-len.false)) (λ fault is. never_refuses _ fault is refl);
      frame = record { config = refl; group_writers = refl };
    }

-- there is no memory for its place
pub returns-in-Err-open-2 : goal.returns-in-Err-open-2
returns-in-Err-open-2 g c =
    record {
      steps = wanted c.args.self.now c.args.number (run.Open c.args.number c.args.peer) _ refl refl
          (λ leaving. unopened c.args.self.now c.args.number c.open-2.new.self
          c.in-Err-open-2.ensures.err (honestly leaving));
      refused = memory_wanted c.args.self.now (run.Open c.args.number c.args.peer) _
          (λ laned. may_open c.args.self.now c.args.number c.args.peer c.is_taken.result
          c.is_taken.ensures c.if-is_taken.false
          (subst (λ (k : ℕ). c.args.peer < k) (c.len.ensures ∙ peers_count c.args.self.now.config)
          c.if-peer-len.false)) refl
          (unopened c.args.self.now c.args.number c.open-2.new.self c.in-Err-open-2.ensures.err);
      frame = record { config = refl; group_writers = refl };
    }
