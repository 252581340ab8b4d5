use Rattle.std.proofs.Common.{ap, refl, ◌∙◌}
use Rattle.std.proofs.Math.ListN.{length-set}
use Rattle.buffer_group.specs.declared.writer.Writer.TheVariants as writers
use Rattle.relay_core.proofs.Queues.{as_taken, inside_of, popped_job, told_failed, told_kept}
use Rattle.relay_core.proofs.Writings.{closed_one, forgotten_one}
use Rattle.relay_core.proofs.system.System.advance.Goals as goal

-- the next job is taken
pub returns-in-Idle : goal.returns-in-Idle
returns-in-Idle g c =
    record {
      advances = as_taken c.args.group c.args.now c.args.writer _ c.args.self.now _ _
          c.in-Idle.is
          (popped_job c.args.group c.args.now c.args.self.now c.index_mut.result.now c.pop.result
          c.pop.new.self c.writer_of.result
          (inside_of c.args.self.now.group_writers c.args.group c.requires)
          c.index_mut.ensures.value c.pop.ensures c.writer_of.ensures);
      frame = record {
        config = refl;
        group_writers = length-set c.args.self.now.group_writers.items _ _;
      };
    }

-- it is begun
pub returns-in-Popped : goal.returns-in-Popped
returns-in-Popped g c =
    record {
      advances = as_taken c.args.group c.args.now c.args.writer _ c.args.self.now _ _
          c.in-Popped.is
          (c.begin.ensures c.args.group c.args.now c.args.self.now);
      frame = record { config = refl; group_writers = refl };
    }

-- its next block is written
pub returns-in-Writing : goal.returns-in-Writing
returns-in-Writing g c =
    record {
      advances = as_taken c.args.group c.args.now c.args.writer _ c.args.self.now _ _
          c.in-Writing.is
          (c.write_next.ensures c.args.group c.args.now c.args.self.now);
      frame = record { config = refl; group_writers = refl };
    }

-- it is settled
pub returns-in-Finished : goal.returns-in-Finished
returns-in-Finished g c =
    record {
      advances = as_taken c.args.group c.args.now c.args.writer _ c.args.self.now _ _
          c.in-Finished.is
          (c.settle.ensures.advances c.args.group);
      frame = c.settle.ensures.frame;
    }

-- the open write is abandoned
pub returns-in-Some : goal.returns-in-Some
returns-in-Some g c =
    record {
      advances = as_taken c.args.group c.args.now c.args.writer _ c.args.self.now _ _
          (c.in-Failed.is ∙ ap (writers.Failed c.in-Failed.job) c.in-Some.is)
          (closed_one c.args.group c.args.now c.in-Failed.job c.args.self.now c.in-Some.begun
          c.abandon.new.self c.abandon.ensures.abandoned);
      frame = record { config = refl; group_writers = refl };
    }

-- the article is given up
pub returns-in-None : goal.returns-in-None
returns-in-None g c =
    record {
      advances = as_taken c.args.group c.args.now c.args.writer _ c.args.self.now _ _
          (c.in-Failed.is ∙ ap (writers.Failed c.in-Failed.job) c.in-None.is)
          (forgotten_one c.args.group c.args.now c.in-Failed.job c.args.self.now c.forget.new.self
          c.forget.ensures);
      frame = record { config = refl; group_writers = refl };
    }

-- the session is told
pub returns-in-Settled : goal.returns-in-Settled
returns-in-Settled g c =
    record {
      advances = as_taken c.args.group c.args.now c.args.writer _ c.args.self.now _ _
          c.in-Settled.is
          (told_kept c.args.group c.args.now c.args.self.now c.in-Settled.session
          c.tell.new.self c.tell.ensures);
      frame = record { config = refl; group_writers = refl };
    }

-- and told of the failure
pub returns-in-Forgotten : goal.returns-in-Forgotten
returns-in-Forgotten g c =
    record {
      advances = as_taken c.args.group c.args.now c.args.writer _ c.args.self.now _ _
          c.in-Forgotten.is
          (told_failed c.args.group c.args.now c.args.self.now c.in-Forgotten.session
          c.tell-in-Forgotten.new.self c.tell-in-Forgotten.ensures);
      frame = record { config = refl; group_writers = refl };
    }
