use Rattle.std.proofs.Common.{refl}
use Rattle.relay_model.specs.Run as run
use Rattle.relay_core.proofs.Forgetting.{first_forgotten, front_read, is_late, is_no_shard}
use Rattle.relay_core.proofs.Forgetting.{late_expire, may_expire, more_forgotten, no_shard}
use Rattle.relay_core.proofs.Refusing.{never_refuses, not_refused, refused_first}
use Rattle.relay_core.specs.declared.event.CoreError.TheVariants as faults
use Rattle.relay_core.specs.declared.event.Output.TheVariants as outputs
use Rattle.relay_core.proofs.system.System.expire.Goals as goal

-- there is no such shard
pub returns-then-shard-ge-SHARD_COUNT : goal.returns-then-shard-ge-SHARD_COUNT
returns-then-shard-ge-SHARD_COUNT g c =
    record {
      steps = no_shard c.args.self.now c.args.shard c.args.now c.if-shard-ge-SHARD_COUNT.true;
      refused = refused_first c.args.self.now (run.Expire c.args.shard c.args.now) faults.NoShard
          (λ laned. is_no_shard c.args.shard c.args.now c.if-shard-ge-SHARD_COUNT.true);
      frame = record { config = refl; group_writers = refl };
    }

-- it is too late
pub returns-then-now-gt-LAST_MOMENT : goal.returns-then-now-gt-LAST_MOMENT
returns-then-now-gt-LAST_MOMENT g c =
    record {
      steps = late_expire c.args.self.now c.args.shard c.args.now c.if-shard-ge-SHARD_COUNT.false
          c.if-now-gt-LAST_MOMENT.true;
      refused = refused_first c.args.self.now (run.Expire c.args.shard c.args.now) faults.BadMoment
          (λ laned. is_late c.args.shard c.args.now c.if-shard-ge-SHARD_COUNT.false
          c.if-now-gt-LAST_MOMENT.true);
      frame = record { config = refl; group_writers = refl };
    }

-- the next front is read
pub returns-in-Some : goal.returns-in-Some
returns-in-Some g c =
    record {
      steps = front_read c.args.self.now c.args.shard c.args.now c.next_front.result c.in-Some.front
          c.read.new.self c.if-shard-ge-SHARD_COUNT.false c.if-now-gt-LAST_MOMENT.false
          c.in-Reading.is c.next_front.ensures.front c.in-Some.is c.read.ensures;
      refused = not_refused c.args.self.now (run.Expire c.args.shard c.args.now) outputs.Quiet _
          (λ laned. may_expire c.args.shard c.args.now c.if-shard-ge-SHARD_COUNT.false
          c.if-now-gt-LAST_MOMENT.false) (λ fault is. never_refuses _ fault is refl);
      frame = record { config = refl; group_writers = refl };
    }

-- all fronts are read
pub returns-in-None : goal.returns-in-None
returns-in-None g c =
    record {
      steps = first_forgotten c.args.self.now c.args.shard c.args.now c.next_front.result
          c.forget_old.new.shards c.forget_old.new.self c.if-shard-ge-SHARD_COUNT.false
          c.if-now-gt-LAST_MOMENT.false c.in-Reading.is c.next_front.ensures.front c.in-None.is
          c.forget_old.ensures;
      refused = not_refused c.args.self.now (run.Expire c.args.shard c.args.now) outputs.Quiet _
          (λ laned. may_expire c.args.shard c.args.now c.if-shard-ge-SHARD_COUNT.false
          c.if-now-gt-LAST_MOMENT.false) (λ fault is. never_refuses _ fault is refl);
      frame = record { config = refl; group_writers = refl };
    }

-- it forgets on
pub returns-in-Forgetting : goal.returns-in-Forgetting
returns-in-Forgetting g c =
    record {
      steps = more_forgotten c.args.self.now c.args.shard c.args.now c.in-Forgetting.left
          c.saturating_sub-less.result c.forget_old-in-Forgetting.new.shards
          c.forget_old-in-Forgetting.new.self c.if-shard-ge-SHARD_COUNT.false
          c.if-now-gt-LAST_MOMENT.false c.in-Forgetting.is c.saturating_sub-less.ensures
          c.forget_old-in-Forgetting.ensures;
      refused = not_refused c.args.self.now (run.Expire c.args.shard c.args.now) outputs.Quiet _
          (λ laned. may_expire c.args.shard c.args.now c.if-shard-ge-SHARD_COUNT.false
          c.if-now-gt-LAST_MOMENT.false) (λ fault is. never_refuses _ fault is refl);
      frame = record { config = refl; group_writers = refl };
    }
