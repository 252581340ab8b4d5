use Rattle.std.proofs.Common.{sym, ◌∙◌, ap, subst, refl, Err, Ok}
use Rattle.std.proofs.Math.Logic.{∥∥₁_map}
use Rattle.cyc_buffer.specs.Calls.{ReadsBlock}
use Rattle.cyc_buffer.specs.Remembered.{IsFoundBy, place_of}
use Rattle.cyc_buffer.specs.declared.answers.FaultKind.TheVariants as kinds
use Rattle.live_store.proofs.TiedLemmas.{tied_same}
use Rattle.live_store.proofs.OpenLemmas.{device_fails}
use Rattle.live_store.proofs.ReadLemmas.{read_numbered, read_chunk, read_shown, read_gone}
use Rattle.live_store.proofs.ReadLemmas.{read_fails}
use Rattle.live_store.specs.Tied.{number_at}
use Rattle.live_store.proofs.numbered.NumberedBuffer.read_numbered.Goals as goal

pub invariant_of-self : goal.invariant_of-self
invariant_of-self g c = record {
  tied = ∥∥₁_map c.args.self.now.tied
      (λ t. tied_same g.J.StorePremises.register g.J.StorePremises.trusted
      c.args.self.now.buffer c.read_block.new.self c.args.self.now.numbers.items
      c.args.self.now.open_write t c.read_block.ensures.reads.same
      c.read_block.ensures.reads.buffer_state c.read_block.ensures.held.count);
}

pub device_fault-requires : goal.device_fault-requires
device_fault-requires g c = device_fails (place_of c.args.self.now.buffer) kinds.Read
    c.args.token.now.length c.in-Err.error c.in-Err.ensures.remembered.fault

pub unreachable-requires : goal.unreachable-requires
unreachable-requires g c = read_numbered g.J.StorePremises.register g.J.StorePremises.trusted
    c.args.self.now.buffer c.args.self.now.open_write c.args.self.now.numbers.items
    c.args.self.now.tied c.args.token.now
    (subst (IsFoundBy c.args.self.now.buffer c.args.token.now c.args.k)
    (c.in-Ok-Chunk.is ∙ ap Ok c.in-Ok-Chunk.field-0-is) c.read_block.ensures.remembered)
    (ap (λ numbers. number_at numbers c.args.token.now.first) (sym c.deref.ensures.value)
    ∙ sym c.number_at.ensures ∙ c.in-None.is)

pub returns-in-Some : goal.returns-in-Some
returns-in-Some g c =
    let old = c.args.self.now in
    let here = ap (λ numbers. number_at numbers c.args.token.now.first) (sym c.deref.ensures.value)
    ∙ sym c.number_at.ensures ∙ c.in-Some.is in
    let reads = subst (λ r. ReadsBlock old.buffer c.args.token.now c.args.k c.args.chunk.now r
    c.read_block.new.chunk c.read_block.new.self)
    (c.in-Ok-Chunk.is ∙ ap Ok c.in-Ok-Chunk.field-0-is) c.read_block.ensures.reads in
    record {
      chunk = read_chunk g.J.StorePremises.register g.J.StorePremises.trusted old.buffer
          old.open_write old.numbers.items old.tied c.args.token.now c.read_block.new.self c.args.k
          c.args.chunk.now c.read_block.new.chunk c.in-Ok-Chunk.octets c.in-Some.shown reads here;
      shown = read_shown g.J.StorePremises.register g.J.StorePremises.trusted old.buffer
          old.open_write old.numbers.items old.tied c.args.token.now c.in-Some.shown here;
      number = here;
      room = reads.room;
      gone = tt;
      unknown = tt;
      fault = tt;
      reads = reads;
      open_write = refl;
      numbers = refl;
    }

pub returns-in-Ok-Gone : goal.returns-in-Ok-Gone
returns-in-Ok-Gone g c =
    let old = c.args.self.now in
    let is = c.in-Ok-Gone.is ∙ ap Ok c.in-Ok-Gone.field-0-is in
    record {
      chunk = λ _. tt;
      shown = tt;
      number = tt;
      room = tt;
      gone = read_gone old.buffer c.args.token.now c.args.k c.in-Ok-Gone.front
          (subst (IsFoundBy old.buffer c.args.token.now c.args.k) is
          c.read_block.ensures.remembered);
      unknown = tt;
      fault = tt;
      reads = subst (λ r. ReadsBlock old.buffer c.args.token.now c.args.k c.args.chunk.now r
          c.read_block.new.chunk c.read_block.new.self) is c.read_block.ensures.reads;
      open_write = refl;
      numbers = refl;
    }

pub returns-in-Ok-Unknown : goal.returns-in-Ok-Unknown
returns-in-Ok-Unknown g c = record {
  chunk = λ _. tt;
  shown = tt;
  number = tt;
  room = tt;
  gone = tt;
  unknown = c.no_chunk.ensures;
  fault = tt;
  reads = subst (λ r. ReadsBlock c.args.self.now.buffer c.args.token.now c.args.k c.args.chunk.now r
      c.read_block.new.chunk c.read_block.new.self)
      (c.in-Ok-Unknown.is ∙ ap Ok c.in-Ok-Unknown.field-0-is) c.read_block.ensures.reads;
  open_write = refl;
  numbers = refl;
}

pub returns-in-Err : goal.returns-in-Err
returns-in-Err g c = record {
  chunk = λ _. tt;
  shown = tt;
  number = tt;
  room = tt;
  gone = tt;
  unknown = tt;
  fault = read_fails c.args.self.now.buffer c.args.token.now c.in-Err.error c.device_fault.result
      c.in-Err.ensures.remembered c.device_fault.ensures;
  reads = subst (λ r. ReadsBlock c.args.self.now.buffer c.args.token.now c.args.k c.args.chunk.now r
      c.read_block.new.chunk c.read_block.new.self)
      (c.in-Err.is ∙ ap Err c.device_fault.ensures) c.read_block.ensures.reads;
  open_write = refl;
  numbers = refl;
}
