use Rattle.std.proofs.Common.{◌∙◌, arith, ap, length, length-append, sym, take}
use Rattle.std.proofs.lemmas.List.{length-take}
use Rattle.news_terms.specs.BlockImage.{chunk_size}
use Rattle.live_store.proofs.AheadLemmas.{chunks_put, few_taken, merely_both}
use Rattle.live_store.proofs.RunLemmas.{far_before, far_short}
use Rattle.live_store.proofs.reading_ahead.read_on.Goals as goal

pub returns-in_default-clause-buffer : goal.returns-in_default-clause-buffer
returns-in_default-clause-buffer g c = merely_both c.args.buffer.now c.loop-i.buffer
    c.read_same.new.buffer c.loop-i.invariant.merely c.read_same.ensures.buffer

pub returns-then-octets-lt-CHUNK_OCTETS-clause-chunks :
    goal.returns-then-octets-lt-CHUNK_OCTETS-clause-chunks
returns-then-octets-lt-CHUNK_OCTETS-clause-chunks g c = λ trusted.
    chunks_put g.J.StorePremises.register c.args.own.now c.loop-i.ahead c.put.new.self c.loop-i.i
    c.args.ahead.now.token (take c.in-Some.octets c.read_same.new.chunk)
    (c.loop-i.invariant.chunks trusted) c.loop-i.invariant.full
    (few_taken c.in-Some.octets chunk_size c.read_same.new.chunk c.in-Some.ensures.room)
    (sym c.loop-i.invariant.token) (c.in-Some.ensures.chunk trusted) c.put.ensures.items
    c.put.ensures.token c.put.ensures.from

pub returns-then-octets-lt-CHUNK_OCTETS-clause-buffer :
    goal.returns-then-octets-lt-CHUNK_OCTETS-clause-buffer
returns-then-octets-lt-CHUNK_OCTETS-clause-buffer g c = merely_both c.args.buffer.now
    c.loop-i.buffer c.read_same.new.buffer c.loop-i.invariant.merely c.read_same.ensures.buffer

pub returns-in_default-clause-far : goal.returns-in_default-clause-far
returns-in_default-clause-far g c = far_before c.args.buffer.now c.args.own.now c.loop-i.buffer
    c.args.ahead.now.token c.args.blocks c.loop-i.i c.loop-i.ahead c.loop-i.invariant.merely
    (sym c.loop-i.invariant.token) c.loop-i.invariant.full
    c.in_default.ensures.own

pub returns-then-octets-lt-CHUNK_OCTETS-clause-far :
    goal.returns-then-octets-lt-CHUNK_OCTETS-clause-far
returns-then-octets-lt-CHUNK_OCTETS-clause-far g c =
    far_short c.args.buffer.now c.args.own.now c.loop-i.buffer c.args.ahead.now.token
    c.args.blocks c.loop-i.i c.in-Some.octets (take c.in-Some.octets c.read_same.new.chunk)
    c.loop-i.ahead c.put.new.self c.loop-i.invariant.merely (sym c.loop-i.invariant.token)
    c.loop-i.invariant.full
    (omega (
      arith,
      length-take c.in-Some.octets c.read_same.new.chunk,
      c.read_same.array_long,
      c.in-Some.ensures.room,
    )) c.if-octets-lt-CHUNK_OCTETS.true c.put.ensures.items c.put.ensures.token
    c.put.ensures.from c.in-Some.ensures.own

pub loop-i-preserved : goal.loop-i-preserved
loop-i-preserved g c =
    let octets = take c.in-Some.octets c.read_same.new.chunk in
    record {
      full = ap length c.put.ensures.items
          ∙ length-append c.loop-i.ahead.octets.items octets
          ∙ omega (
            arith,
            c.loop-i.invariant.full,
            length-take c.in-Some.octets c.read_same.new.chunk,
            c.read_same.array_long,
            c.in-Some.ensures.room,
            c.if-octets-lt-CHUNK_OCTETS.false,
          );
      room = c.put.ensures.room ∙ c.loop-i.invariant.room;
      token = c.put.ensures.token ∙ c.loop-i.invariant.token;
      from = c.put.ensures.from ∙ c.loop-i.invariant.from;
      chunks = λ trusted. chunks_put g.J.StorePremises.register c.args.own.now c.loop-i.ahead
          c.put.new.self c.loop-i.i c.args.ahead.now.token octets
          (c.loop-i.invariant.chunks trusted) c.loop-i.invariant.full
          (few_taken c.in-Some.octets chunk_size c.read_same.new.chunk c.in-Some.ensures.room)
          (sym c.loop-i.invariant.token) (c.in-Some.ensures.chunk trusted) c.put.ensures.items
          c.put.ensures.token c.put.ensures.from;
      merely = merely_both c.args.buffer.now c.loop-i.buffer c.read_same.new.buffer
          c.loop-i.invariant.merely c.read_same.ensures.buffer;
    }
