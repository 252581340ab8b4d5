use Rattle.std.proofs.Common.{◌∙◌, ap, sym, Result}
use Rattle.cyc_buffer.specs.declared.answers.Fault.{Fault}
use Rattle.cyc_token.specs.Token.{token_view}
use Rattle.live_store.specs.Ahead.{told_of}
use Rattle.live_store.specs.Steps.{as_found, one_found}
use Rattle.live_store.specs.declared.answers.OneRead.TheVariants as ones
use Rattle.live_store.specs.declared.answers.Reading.{Reading}
use Rattle.live_store.proofs.AheadLemmas.{found_named, merely_both, merely_read, told_ok}
use Rattle.live_store.proofs.following.OneRecord.read_run.Goals as goal

pub returns-in-Err-clause-told : goal.returns-in-Err-clause-told
returns-in-Err-clause-told g c =
    record {
      reading = c.read.result;
      read = c.read.new.self.buffer;
      reads = c.read.ensures.reads;
      told = ap (λ (r : Result Reading Fault). told_of r c.args.self.now.shown)
          (sym c.in-Err.is);
    }

pub returns-then-not-begun-clause-chunk : goal.returns-then-not-begun-clause-chunk
returns-then-not-begun-clause-chunk g c = λ trusted.
    c.tell-one.ensures.tells.chunk _ _ _ (c.in-Ok.ensures.chunk trusted)

pub returns-then-not-begun-clause-nowhere : goal.returns-then-not-begun-clause-nowhere
returns-then-not-begun-clause-nowhere g c = λ count.
    c.tell-one.ensures.nowhere count (token_view c.args.token.now) c.in-Ok.ensures.unknown

pub returns-then-not-begun-clause-told : goal.returns-then-not-begun-clause-told
returns-then-not-begun-clause-told g c =
    record {
      reading = c.read.result;
      read = c.read.new.self.buffer;
      reads = c.read.ensures.reads;
      told = told_ok c.read.result c.in-Ok.reading c.tell-one.result c.args.self.now.shown
          c.in-Ok.is
          c.tell-one.ensures.tells.told;
    }

pub returns-in_default-clause-chunk : goal.returns-in_default-clause-chunk
returns-in_default-clause-chunk g c = λ trusted.
    c.tell-one.ensures.tells.chunk _ _ _ (c.in-Ok.ensures.chunk trusted)

pub returns-in_default-clause-nowhere : goal.returns-in_default-clause-nowhere
returns-in_default-clause-nowhere g c = λ count.
    c.tell-one.ensures.nowhere count (token_view c.args.token.now) c.in-Ok.ensures.unknown

pub returns-in_default-clause-told : goal.returns-in_default-clause-told
returns-in_default-clause-told g c =
    record {
      reading = c.read.result;
      read = c.read.new.self.buffer;
      reads = c.read.ensures.reads;
      told = told_ok c.read.result c.in-Ok.reading c.tell-one.result c.args.self.now.shown
          c.in-Ok.is
          c.tell-one.ensures.tells.told;
    }

-- the room that is taken is for the token of the record
pub read_ahead-requires-clause-found : goal.read_ahead-requires-clause-found
read_ahead-requires-clause-found g c = λ trusted.
    found_named g.J.StorePremises.register (token_view c.args.token.now) c.args.k
    c.in-Chunk.octets c.read.new.chunk c.tell-one.new.self.shown c.tell-one.result c.in-Chunk.is
    (c.tell-one.ensures.tells.chunk _ _ _ (c.in-Ok.ensures.chunk trusted))

pub returns-clause-told : goal.returns-clause-told
returns-clause-told g c =
    record {
      reading = c.read.result;
      read = c.read.new.self.buffer;
      reads = c.read.ensures.reads;
      told = told_ok c.read.result c.in-Ok.reading (ones.Chunk c.in-Chunk.octets)
          c.args.self.now.shown c.in-Ok.is
          (ap one_found (sym c.in-Chunk.is) ∙ c.tell-one.ensures.tells.told);
    }

pub returns-clause-buffer : goal.returns-clause-buffer
returns-clause-buffer g c = merely_both c.args.buffer.now c.read.new.self c.read_ahead.new.buffer
    (merely_read c.args.buffer.now c.read.new.self c.args.token.now c.args.k c.args.chunk.now
    c.read.new.chunk (as_found c.read.result) c.read.ensures.reads c.read.ensures.open_write
    c.read.ensures.numbers) c.read_ahead.ensures.buffer
