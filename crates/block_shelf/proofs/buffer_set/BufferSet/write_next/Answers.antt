use Rattle.std.proofs.Common.{◌∙◌, refl, sym}
use Rattle.std.proofs.lemmas.Bool.{false≢true}
use Rattle.cyc_buffer.specs.Agreement.{CanWrite}
use Rattle.cyc_buffer.specs.Answers.{IsDeviceFault}
use Rattle.cyc_buffer.specs.Remembered.{place_of}
use Rattle.cyc_buffer.specs.declared.answers.FaultKind.TheVariants as kinds
use Rattle.block_shelf.proofs.OpenWrites.{at_token, none_at_token, of_token, writes_there, wrote}
use Rattle.block_shelf.proofs.OpenWrites.{wrote_none}
use Rattle.block_shelf.proofs.Shelving.{called_once, calls_no_other, read_there}
use Rattle.block_shelf.proofs.buffer_set.BufferSet.write_next.Goals as goal

pub returns-then-not-can_write-clause-written : goal.returns-then-not-can_write-clause-written
returns-then-not-can_write-clause-written g c =
    λ trusted w begun kept openings failures keeps h written is left.
    absurd (false≢true (sym c.if-not-can_write.true
    ∙ c.can_write.ensures.1 (writes_there keeps c.args.begun.now is left)))

pub write_next-requires : goal.write_next-requires
write_next-requires g c =
    at_token c.args.self.now c.args.begun.now (rw c.token.ensures at c.from.ensures)
    (λ code. CanWrite code c.args.begun.now.open c.args.text.now)
    (read_there c.args.self.now.buffers.items c.from.result c.in-Some.ensures.item)
    (c.can_write.ensures.0 c.if-not-can_write.false)

-- a text that can be written has its buffer
pub unreachable-requires : goal.unreachable-requires
unreachable-requires g c =
    none_at_token c.args.self.now c.args.begun.now (rw c.token.ensures at c.from.ensures)
    (λ code. CanWrite code c.args.begun.now.open c.args.text.now) c.in-None.ensures.item.0
    (c.can_write.ensures.0 c.if-not-can_write.false)

pub returns-in-Ok-clause-written : goal.returns-in-Ok-clause-written
returns-in-Ok-clause-written g c =
    λ trusted w begun kept openings failures keeps h written is left.
    let number = rw c.token.ensures at c.from.ensures in
    let there = read_there c.args.self.now.buffers.items c.from.result c.in-Some.ensures.item in
    let does = c.in-Ok.ensures.written in (
      wrote keeps is number there c.args.begun.now.open refl c.in-Ok.last does
          c.in-Ok.ensures.device c.in-Ok.ensures.leaves,
      called_once c.args.self.now c.from.result c.write_next.new.self there number does.calls,
    )

pub returns-in-Ok-clause-cases : goal.returns-in-Ok-clause-cases
returns-in-Ok-clause-cases g c = (
  c.can_write.ensures.0 c.if-not-can_write.false,
  called_once c.args.self.now c.from.result c.write_next.new.self
      (read_there c.args.self.now.buffers.items c.from.result c.in-Some.ensures.item)
      (rw c.token.ensures at c.from.ensures) c.in-Ok.ensures.written.calls,
)

pub returns-in-Ok-clause-calls : goal.returns-in-Ok-clause-calls
returns-in-Ok-clause-calls g c = λ number apart.
    calls_no_other c.args.self.now c.from.result c.write_next.new.self
    (read_there c.args.self.now.buffers.items c.from.result c.in-Some.ensures.item) number
    (λ same. apart (same ∙ (rw c.token.ensures at c.from.ensures)))

pub returns-in-Err-clause-written : goal.returns-in-Err-clause-written
returns-in-Err-clause-written g c =
    λ trusted w begun kept openings failures keeps h written is left.
    let number = rw c.token.ensures at c.from.ensures in
    let there = read_there c.args.self.now.buffers.items c.from.result c.in-Some.ensures.item in
    let does = c.in-Err.ensures.written in (
      wrote_none keeps is number there c.args.begun.now.open refl c.in-Err.error does
          c.in-Err.ensures.device,
      called_once c.args.self.now c.from.result c.write_next.new.self there number does.calls,
    )

pub returns-in-Err-clause-cases : goal.returns-in-Err-clause-cases
returns-in-Err-clause-cases g c =
    let number = rw c.token.ensures at c.from.ensures in
    let there = read_there c.args.self.now.buffers.items c.from.result c.in-Some.ensures.item in (
      c.can_write.ensures.0 c.if-not-can_write.false,
      of_token c.args.self.now c.args.begun.now number
          (λ code. IsDeviceFault (place_of code) kinds.Write c.args.begun.now.open.token.length
          c.in-Err.error) there c.in-Err.ensures.fault,
      called_once c.args.self.now c.from.result c.write_next.new.self there number
          c.in-Err.ensures.written.calls,
    )

pub returns-in-Err-clause-calls : goal.returns-in-Err-clause-calls
returns-in-Err-clause-calls g c = λ number apart.
    calls_no_other c.args.self.now c.from.result c.write_next.new.self
    (read_there c.args.self.now.buffers.items c.from.result c.in-Some.ensures.item) number
    (λ same. apart (same ∙ (rw c.token.ensures at c.from.ensures)))
