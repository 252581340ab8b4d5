use Rattle.std.proofs.Common.{◌<◌, ◌≤◌, ℕ, refl, subst, sym, ◌∙◌}
use Rattle.std.proofs.Math.ListN.{length-set}
use Rattle.relay_model.specs.Run as run
use Rattle.relay_core.proofs.Queues.{as_taken, inside_of, late_write, no_group, written}
use Rattle.relay_core.proofs.Refusing as refusing
use Rattle.relay_core.specs.declared.event.CoreError.TheVariants as faults
use Rattle.relay_core.specs.declared.event.Output.TheVariants as outputs
use Rattle.relay_core.proofs.system.System.write.Goals as goal

-- there is no such group
pub returns-then-group-len : goal.returns-then-group-len
returns-then-group-len g c =
    let past = subst (λ (k : ℕ). k ≤ c.args.group)
    (c.len.ensures ∙ c.args.self.now.group_writers.ok.0) c.if-group-len.true in
    record {
      steps = no_group c.args.self.now c.args.group c.args.now past;
      refused = refusing.refused_first c.args.self.now (run.Write c.args.group c.args.now)
          faults.NoGroup (refusing.no_group c.args.self.now c.args.group c.args.now past);
      frame = record { config = refl; group_writers = refl };
    }

-- it is too late
pub returns-then-now-gt-LAST_MOMENT : goal.returns-then-now-gt-LAST_MOMENT
returns-then-now-gt-LAST_MOMENT g c =
    let inside = inside_of c.args.self.now.group_writers c.args.group
    (subst (λ (k : ℕ). c.args.group < k) c.len.ensures c.if-group-len.false) in
    record {
      steps = late_write c.args.self.now c.args.group c.args.now inside
          c.if-now-gt-LAST_MOMENT.true;
      refused = refusing.refused_first c.args.self.now (run.Write c.args.group c.args.now)
          faults.BadMoment
          (refusing.late_write c.args.self.now c.args.group c.args.now inside
          c.if-now-gt-LAST_MOMENT.true);
      frame = record { config = refl; group_writers = refl };
    }

-- the writer goes on
pub returns : goal.returns
returns g c =
    let inside = inside_of c.args.self.now.group_writers c.args.group
    (subst (λ (k : ℕ). c.args.group < k) c.len.ensures c.if-group-len.false) in
    record {
      steps = written c.args.group c.args.now c.args.self.now c.index_mut.result.now
          (record { queue = c.index_mut.result.now.queue; writer = c.replace-taken.new.dest })
          c.advance-writer.new.self c.advance-writer.result c.index_mut-2.result.now
          (record { queue = c.index_mut-2.result.now.queue; writer = c.replace.new.dest }) inside
          c.if-now-gt-LAST_MOMENT.false c.index_mut.ensures.value refl
          (as_taken c.args.group c.args.now c.index_mut.result.now.writer c.replace-taken.result _ _
          _ (sym c.replace-taken.ensures.value) c.advance-writer.ensures.advances)
          c.advance-writer.ensures.frame c.index_mut-2.ensures.value refl c.replace.ensures.after;
      refused = refusing.not_refused c.args.self.now (run.Write c.args.group c.args.now)
          outputs.Quiet _
          (refusing.write_open c.args.self.now c.args.group c.args.now inside
          c.if-now-gt-LAST_MOMENT.false) (λ fault is. refusing.never_refuses _ fault is refl);
      frame = record {
        config = c.advance-writer.ensures.frame.config;
        group_writers = length-set c.advance-writer.new.self.group_writers.items _ _
            ∙ c.advance-writer.ensures.frame.group_writers
            ∙ length-set c.args.self.now.group_writers.items _ _;
      };
    }
