use Rattle.std.proofs.Common.{arith, subst, sym, Ok}
use Rattle.std.proofs.lemmas.List.{length-take-le}
use Rattle.buffer_repair.specs.Keeping.{KeepsRead}
use Rattle.cyc_buffer.specs.declared.answers.Found.{Found}
use Rattle.cyc_token.specs.Token.{token_view}
use Rattle.found_texts.proofs.GatherLemmas.{chunk_next, gone_next, unknown_next}
use Rattle.found_texts.proofs.HeldLemmas.{memory_ends, read_failed, read_held, read_room}
use Rattle.found_texts.proofs.HeldLemmas.{read_unfailed}
use Rattle.found_texts.proofs.gathering.read_next.Goals as goal

pub slice_bounds-chunk-end : goal.slice_bounds-chunk-end
slice_bounds-chunk-end g c = omega (
  arith,
  c.in-Ok-Chunk.count-is,
  c.type_inv.chunk,
  read_room c.args.found_set.now c.read_block.new.self c.in-Ok-Chunk.field-0 c.in-Ok-Chunk.count
      c.in-Ok-Chunk.field-0-is c.in-Ok-Chunk.ensures.reads,
)

pub slice_bounds-extend_from_slice-end : goal.slice_bounds-extend_from_slice-end
slice_bounds-extend_from_slice-end g c =
    let room = read_room c.args.found_set.now c.read_block.new.self c.in-Ok-Chunk.field-0
    c.in-Ok-Chunk.count c.in-Ok-Chunk.field-0-is c.in-Ok-Chunk.ensures.reads in
    rw c.in-Ok-Chunk.count-is
    (sym (length-take-le c.in-Ok-Chunk.count c.read_block.new.chunk
    (omega (arith, room, c.read_block.array_long))))

pub returns-in_err-extend_from_slice-in-Ok-Chunk-clause-refused :
    goal.returns-in_err-extend_from_slice-in-Ok-Chunk-clause-refused
returns-in_err-extend_from_slice-in-Ok-Chunk-clause-refused g c =
    memory_ends c.args.found_set.now c.read_block.new.self c.from_residual.result
    c.from_residual.ensures.1
    (read_unfailed c.args.found_set.now c.read_block.new.self c.in-Ok-Chunk.field-0
    c.in-Ok-Chunk.ensures.reads)

pub returns-in_err-extend_from_slice-in-Ok-Chunk-clause-held :
    goal.returns-in_err-extend_from_slice-in-Ok-Chunk-clause-held
returns-in_err-extend_from_slice-in-Ok-Chunk-clause-held g c =
    read_held c.args.found_set.now c.read_block.new.self c.read_block.result
    c.read_block.ensures.reads

pub returns-in_ok-extend_from_slice-in-Ok-Chunk :
    goal.returns-in_ok-extend_from_slice-in-Ok-Chunk
returns-in_ok-extend_from_slice-in-Ok-Chunk g c =
    let old = c.args.found_set.now in
    let new = c.read_block.new.self in
    record {
      next = chunk_next (token_view c.args.token) old new c.args.k _ c.in-Ok-Chunk.count
          c.read_block.new.chunk c.args.octets.now.items c.extend_from_slice.new.self.items
          (subst (λ (one : Found). KeepsRead (token_view c.args.token) c.args.k old (Ok one)
          c.read_block.new.chunk new) c.in-Ok-Chunk.field-0-is c.in-Ok-Chunk.ensures.keeps)
          c.in_ok-extend_from_slice-in-Ok-Chunk.ensures.items c.in-Ok-Chunk.count-is;
      unfailed = read_unfailed old new c.in-Ok-Chunk.field-0 c.in-Ok-Chunk.ensures.reads;
      refused = tt;
      held = read_held old new c.read_block.result c.read_block.ensures.reads;
    }

pub returns-in-Ok-Gone : goal.returns-in-Ok-Gone
returns-in-Ok-Gone g c =
    let old = c.args.found_set.now in
    let new = c.read_block.new.self in
    let octets = c.args.octets.now.items in
    record {
      next = gone_next (token_view c.args.token) old new c.args.k c.in-Ok-Gone.field-0-0
          c.read_block.new.chunk octets octets
          (subst (λ (one : Found). KeepsRead (token_view c.args.token) c.args.k old (Ok one)
          c.read_block.new.chunk new) c.in-Ok-Gone.field-0-is c.in-Ok-Gone.ensures.keeps);
      unfailed = read_unfailed old new c.in-Ok-Gone.field-0 c.in-Ok-Gone.ensures.reads;
      refused = tt;
      held = read_held old new c.read_block.result c.read_block.ensures.reads;
    }

pub returns-in-Ok-Unknown : goal.returns-in-Ok-Unknown
returns-in-Ok-Unknown g c =
    let old = c.args.found_set.now in
    let new = c.read_block.new.self in
    let octets = c.args.octets.now.items in
    record {
      next = unknown_next (token_view c.args.token) old new c.args.k c.read_block.new.chunk octets
          octets
          (subst (λ (one : Found). KeepsRead (token_view c.args.token) c.args.k old (Ok one)
          c.read_block.new.chunk new) c.in-Ok-Unknown.field-0-is c.in-Ok-Unknown.ensures.keeps);
      unfailed = read_unfailed old new c.in-Ok-Unknown.field-0 c.in-Ok-Unknown.ensures.reads;
      refused = tt;
      held = read_held old new c.read_block.result c.read_block.ensures.reads;
    }

pub returns-in-Err-clause-refused : goal.returns-in-Err-clause-refused
returns-in-Err-clause-refused g c =
    read_failed c.args.found_set.now c.read_block.new.self c.in-Err.field-0
    c.in-Err.ensures.reads

pub returns-in-Err-clause-held : goal.returns-in-Err-clause-held
returns-in-Err-clause-held g c =
    read_held c.args.found_set.now c.read_block.new.self c.read_block.result
    c.read_block.ensures.reads
