use Rattle.std.proofs.Common.{refl, sym, ◌∙◌, ap, subst, Some, Ok, Err, length, ◌+◌, false}
use Rattle.std.proofs.Common.{true}
use Rattle.std.specs.Prelude.{IfSome}
use Rattle.boxcar.specs.Table.{Shows, Where}
use Rattle.cyc_buffer.specs.Agreement.{CanWrite, length_of}
use Rattle.cyc_buffer.specs.Calls.{WritesNext}
use Rattle.cyc_buffer.specs.Remembered.{place_of}
use Rattle.cyc_buffer.specs.declared.answers.Fault.{Fault}
use Rattle.cyc_buffer.specs.declared.answers.FaultKind.TheVariants as kinds
use Rattle.live_store.specs.declared.writing.entering.Record.{Record}
use Rattle.live_store.specs.Tied.{Tied}
use Rattle.live_store.specs.Steps.{CanWriteFor}
use Rattle.live_store.proofs.TiedLemmas.{open_write_of}
use Rattle.live_store.proofs.OpenLemmas.{the_same, shows_of, can_write, writes_record}
use Rattle.live_store.proofs.OpenLemmas.{writes_failed, tied_written, tied_broken, device_fails}
use Rattle.live_store.proofs.OpenLemmas.{device_fault_is}
use Rattle.live_store.proofs.numbered.NumberedBuffer.write_next.Goals as goal

pub can_write-requires-clause-own : goal.can_write-requires-clause-own
can_write-requires-clause-own g c =
    subst (λ s. IfSome c.in-Some.open_write.shown (λ w. Shows s w)) (sym c.requires.register)
    (shows_of g.J.StorePremises.register g.J.StorePremises.trusted c.args.self.now.buffer
    c.in-Some.open_write
    c.args.self.now.numbers.items
    (subst (λ b. ∥ Tied g.J.StorePremises.trusted g.J.StorePremises.register
    c.args.self.now.buffer b
    c.args.self.now.numbers.items ∥₁) c.in-Some.is c.args.self.now.tied))

-- the open write that stands beside the buffer can be written on, since it can for the record
pub write_next-requires : goal.write_next-requires
write_next-requires g c =
    let field = c.in-Some-take.field-0 in
    let tied = subst (λ b. ∥ Tied g.J.StorePremises.trusted g.J.StorePremises.register
    c.args.self.now.buffer b c.args.self.now.numbers.items ∥₁)
    (sym c.take.ensures.value ∙ c.in-Some-take.is) c.args.self.now.tied in
    let can = subst (λ b. CanWriteFor b c.args.entered.now.shown)
    (the_same c.args.self.now.open_write c.take.result c.in-Some.open_write field c.in-Some.is
    c.take.ensures.value c.in-Some-take.is) (c.can_write.ensures.0 c.if-not-can_write.false) in
    subst (λ x. CanWrite c.args.self.now.buffer field.write x) (sym c.requires.text)
    (can_write g.J.StorePremises.register g.J.StorePremises.trusted c.args.self.now.buffer field
    c.args.self.now.numbers.items tied c.args.entered.now.shown can)

pub invariant_of-self : goal.invariant_of-self
invariant_of-self g c =
    let field = c.in-Some-take.field-0 in
    let tied = subst (λ b. ∥ Tied g.J.StorePremises.trusted g.J.StorePremises.register
    c.args.self.now.buffer b c.args.self.now.numbers.items ∥₁)
    (sym c.take.ensures.value ∙ c.in-Some-take.is) c.args.self.now.tied in
    let can = subst (λ b. CanWriteFor b c.args.entered.now.shown)
    (the_same c.args.self.now.open_write c.take.result c.in-Some.open_write field c.in-Some.is
    c.take.ensures.value c.in-Some-take.is) (c.can_write.ensures.0 c.if-not-can_write.false) in
    let writes = subst (λ x. WritesNext c.args.self.now.buffer field.write x
    (Ok c.in-Ok.last) c.write_next.new.self) c.requires.text c.in-Ok.ensures.written in
    record {
      tied = subst
          (λ b. ∥ Tied g.J.StorePremises.trusted g.J.StorePremises.register c.write_next.new.self b
          c.args.self.now.numbers.items ∥₁)
          (sym (c.put.ensures ∙ ap (λ (w : Where Record). Some (open_write_of field.write w
          (field.written + 1) false)) c.again.ensures))
          (tied_written g.J.StorePremises.register g.J.StorePremises.trusted
          c.args.self.now.buffer field
          c.args.self.now.numbers.items tied c.write_next.new.self
          c.args.entered.now.shown c.in-Ok.last
          can c.requires.shown writes c.in-Ok.ensures.device c.in-Ok.ensures.starts);
    }

pub invariant_of-self-in-Err : goal.invariant_of-self-in-Err
invariant_of-self-in-Err g c =
    let field = c.in-Some-take.field-0 in
    let tied = subst (λ b. ∥ Tied g.J.StorePremises.trusted g.J.StorePremises.register
    c.args.self.now.buffer b c.args.self.now.numbers.items ∥₁)
    (sym c.take.ensures.value ∙ c.in-Some-take.is) c.args.self.now.tied in
    let can = subst (λ b. CanWriteFor b c.args.entered.now.shown)
    (the_same c.args.self.now.open_write c.take.result c.in-Some.open_write field c.in-Some.is
    c.take.ensures.value c.in-Some-take.is) (c.can_write.ensures.0 c.if-not-can_write.false) in
    let writes = subst (λ x. WritesNext c.args.self.now.buffer field.write x
    (Err c.in-Err.error) c.write_next.new.self) c.requires.text c.in-Err.ensures.written in
    record {
      tied = subst
          (λ b. ∥ Tied g.J.StorePremises.trusted g.J.StorePremises.register c.write_next.new.self b
          c.args.self.now.numbers.items ∥₁)
          (sym (c.put-in-Err.ensures ∙ ap (λ (w : Where Record). Some (open_write_of field.write w
          field.written true)) c.again-in-Err.ensures))
          (tied_broken g.J.StorePremises.register g.J.StorePremises.trusted
          c.args.self.now.buffer field
          c.args.self.now.numbers.items tied c.write_next.new.self c.args.entered.now.shown
          c.in-Err.error c.requires.shown writes c.in-Err.ensures.device
          c.in-Err.ensures.starts);
    }

pub device_fault-requires : goal.device_fault-requires
device_fault-requires g c = device_fails (place_of c.args.self.now.buffer) kinds.Write
    (length_of c.in-Some-take.field-0.write) c.in-Err.error c.in-Err.ensures.fault

pub returns-in-Ok-clause-writes : goal.returns-in-Ok-clause-writes
returns-in-Ok-clause-writes g c =
    let field = c.in-Some-take.field-0 in
    let can = subst (λ b. CanWriteFor b c.args.entered.now.shown)
    (the_same c.args.self.now.open_write c.take.result c.in-Some.open_write field c.in-Some.is
    c.take.ensures.value c.in-Some-take.is) (c.can_write.ensures.0 c.if-not-can_write.false) in
    writes_record c.args.self.now _ field (sym c.take.ensures.value ∙ c.in-Some-take.is)
    c.args.entered.now.shown c.args.text.now c.requires.text can (Ok c.in-Ok.last)
    c.in-Ok.ensures.written
    c.in-Ok.ensures.device
    (c.put.ensures ∙ ap (λ (w : Where Record). Some (open_write_of field.write w
    (field.written + 1) false)) c.again.ensures)
    refl

pub returns-in-Err-clause-writes : goal.returns-in-Err-clause-writes
returns-in-Err-clause-writes g c =
    let field = c.in-Some-take.field-0 in
    let can = subst (λ b. CanWriteFor b c.args.entered.now.shown)
    (the_same c.args.self.now.open_write c.take.result c.in-Some.open_write field c.in-Some.is
    c.take.ensures.value c.in-Some-take.is) (c.can_write.ensures.0 c.if-not-can_write.false) in
    writes_failed c.args.self.now _ field (sym c.take.ensures.value ∙ c.in-Some-take.is)
    c.args.entered.now.shown c.args.text.now c.requires.text can c.in-Err.error
    c.device_fault.result
    c.device_fault.ensures c.in-Err.ensures.written c.in-Err.ensures.device
    (c.put-in-Err.ensures ∙ ap (λ (w : Where Record). Some (open_write_of field.write w
    field.written true)) c.again-in-Err.ensures)
    refl

pub returns-in-Err-clause-fault : goal.returns-in-Err-clause-fault
returns-in-Err-clause-fault g c =
    let field = c.in-Some-take.field-0 in
    let can = subst (λ b. CanWriteFor b c.args.entered.now.shown)
    (the_same c.args.self.now.open_write c.take.result c.in-Some.open_write field c.in-Some.is
    c.take.ensures.value c.in-Some-take.is) (c.can_write.ensures.0 c.if-not-can_write.false) in
    let fault = device_fault_is (place_of c.args.self.now.buffer) kinds.Write
    (length_of field.write) c.in-Err.error c.device_fault.result c.in-Err.ensures.fault
    c.device_fault.ensures in (
      ap (λ (f : Fault). f.kind) fault,
      ap (λ (f : Fault). f.length) fault ∙ sym can.octets ∙ ap length (sym c.requires.text),
    )
