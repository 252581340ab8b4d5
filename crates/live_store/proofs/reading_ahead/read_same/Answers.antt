use Rattle.std.proofs.Common.{◌≡◌, inl, inr, refl, subst, sym, None, Some, Ok, Result}
use Rattle.cyc_buffer.specs.declared.answers.Fault.{Fault}
use Rattle.live_store.specs.Ahead.{IsOfRecord}
use Rattle.live_store.specs.declared.answers.Reading.{Reading}
use Rattle.live_store.proofs.reading_ahead.read_same.Goals as goal

pub returns-then-is_same-clause-own : goal.returns-then-is_same-clause-own
returns-then-is_same-clause-own g c =
    record {
      before = c.args.chunk.now;
      after = c.read.new.chunk;
      reading = c.read.result;
      read = c.read.new.self.buffer;
      reads = c.read.ensures.reads;
      own_one = subst
          (λ (r : Result Reading Fault).
          IsOfRecord c.args.own.now r (Some c.in-Ok-Chunk.octets)) (sym c.in-Ok-Chunk.is)
          (subst
          (λ (r : Reading). IsOfRecord c.args.own.now (Ok r) (Some c.in-Ok-Chunk.octets))
          (sym c.in-Ok-Chunk.field-0-is) (inl refl));
    }

pub returns-in-Ok-Chunk-clause-own : goal.returns-in-Ok-Chunk-clause-own
returns-in-Ok-Chunk-clause-own g c =
    record {
      before = c.args.chunk.now;
      after = c.read.new.chunk;
      reading = c.read.result;
      read = c.read.new.self.buffer;
      reads = c.read.ensures.reads;
      own_one = subst
          (λ (r : Result Reading Fault). IsOfRecord c.args.own.now r None)
          (sym c.in-Ok-Chunk.is)
          (subst (λ (r : Reading). IsOfRecord c.args.own.now (Ok r) None)
          (sym c.in-Ok-Chunk.field-0-is)
          (inr (refl, c.is_same.ensures.apart c.if-is_same.false)));
    }

pub returns-in-Ok-Gone-clause-own : goal.returns-in-Ok-Gone-clause-own
returns-in-Ok-Gone-clause-own g c =
    record {
      before = c.args.chunk.now;
      after = c.read.new.chunk;
      reading = c.read.result;
      read = c.read.new.self.buffer;
      reads = c.read.ensures.reads;
      own_one = subst (λ (r : Result Reading Fault). IsOfRecord c.args.own.now r None)
          (sym c.in-Ok-Gone.is)
          (subst (λ (r : Reading). IsOfRecord c.args.own.now (Ok r) None)
          (sym c.in-Ok-Gone.field-0-is) refl);
    }

pub returns-in-Ok-Unknown-clause-own : goal.returns-in-Ok-Unknown-clause-own
returns-in-Ok-Unknown-clause-own g c =
    record {
      before = c.args.chunk.now;
      after = c.read.new.chunk;
      reading = c.read.result;
      read = c.read.new.self.buffer;
      reads = c.read.ensures.reads;
      own_one = subst (λ (r : Result Reading Fault). IsOfRecord c.args.own.now r None)
          (sym c.in-Ok-Unknown.is)
          (subst (λ (r : Reading). IsOfRecord c.args.own.now (Ok r) None)
          (sym c.in-Ok-Unknown.field-0-is) refl);
    }
