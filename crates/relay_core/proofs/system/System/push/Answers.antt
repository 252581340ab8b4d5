use Rattle.std.proofs.Common.{◌≡◌, ◌<◌, ◌≤◌, ℕ, false, ap, refl, subst, sym, ◌∙◌}
use Rattle.std.proofs.Math.ListN.{length-set}
use Rattle.std.specs.Prelude.{length, nat_le}
use Rattle.peer_session.specs.declared.steps.Answer.TheVariants as answers
use Rattle.relay_core.proofs.Dispatch.{never}
use Rattle.relay_core.proofs.GroupWriters.{same_group_writer}
use Rattle.relay_core.proofs.Pushing.{full_push, job_pushed, no_job, past_push}
use Rattle.relay_core.proofs.Queues.{inside_of}
use Rattle.relay_core.specs.Queues.{jobs_of}
use Rattle.relay_core.specs.declared.system.GroupWriter.{GroupWriter}
use Rattle.relay_core.proofs.system.System.push.Goals as goal

-- there is no such group
pub returns-then-group-len : goal.returns-then-group-len
returns-then-group-len g c =
    record {
      shared = λ number now. past_push c.args.group c.args.self.now c.args.peer.now number now
          (subst (λ (k : ℕ). k ≤ c.args.group) (c.len.ensures ∙ c.args.self.now.group_writers.ok.0)
          c.if-group-len.true);
      memory = λ number. never (answers.Pushed false) refl;
      never = never (answers.Pushed false) refl;
      frame = record { config = refl; group_writers = refl };
      peers = refl;
    }

-- there is no room
pub returns-then-is_full : goal.returns-then-is_full
returns-then-is_full g c =
    record {
      shared = λ number now. full_push c.args.group c.args.self.now c.args.peer.now number now
          c.index.result.now
          (inside_of c.args.self.now.group_writers c.args.group
          (subst (λ (k : ℕ). c.args.group < k) c.len.ensures c.if-group-len.false)) c.index.ensures
          (sym c.is_full.ensures ∙ c.if-is_full.true);
      memory = λ number. never (answers.Pushed _) refl;
      never = never (answers.Pushed _) refl;
      frame = record { config = refl; group_writers = refl };
      peers = refl;
    }

-- the job joins its group writer
pub returns-in-Some : goal.returns-in-Some
returns-in-Some g c =
    record {
      shared = λ number now.
          let inside = inside_of c.args.self.now.group_writers c.args.group
          (subst (λ (k : ℕ). c.args.group < k) c.len.ensures c.if-group-len.false) in
          let same = same_group_writer c.args.self.now.group_writers.items c.args.group
          c.index.result.now c.index_mut.result.now inside c.index.ensures
          c.index_mut.ensures.value in
          let room : nat_le 64 (length (jobs_of c.index_mut.result.now.queue)) ≡ false =
          ap (λ (group_writer : GroupWriter). nat_le 64 (length (jobs_of group_writer.queue)))
          (sym same) ∙ sym c.is_full.ensures ∙ c.if-is_full.false in
          job_pushed c.args.group c.args.self.now c.args.peer.now number now c.index_mut.result.now
          c.hand_over.new.self c.hand_over.result c.in-Some.job c.push.new.self inside
          c.index_mut.ensures.value room c.hand_over.ensures c.in-Some.is c.push.ensures;
      memory = λ number. never (answers.Pushed _) refl;
      never = never (answers.Pushed _) refl;
      frame = record
          { config = refl; group_writers = length-set c.args.self.now.group_writers.items _ _ };
      peers = refl;
    }

-- the session had a job
pub returns-in-None : goal.returns-in-None
returns-in-None g c =
    record {
      shared = λ number now. no_job c.args.group c.args.self.now c.args.peer.now number now
          c.hand_over.new.self c.hand_over.result c.in-None.is c.hand_over.ensures;
      memory = λ number. never (answers.Pushed _) refl;
      never = never (answers.Pushed _) refl;
      frame = record { config = refl; group_writers = refl };
      peers = refl;
    }
