use Rattle.std.proofs.Common.{arith, sym}
use Rattle.std.proofs.lemmas.List.{length-map}
use Rattle.relay_conf.specs.declared.cycbuff.BufferConf.{BufferConf}
use Rattle.relay_conf.proofs.NameTexts.{name_doubled, name_new, names_full}
use Rattle.relay_conf.proofs.cycbuff.add_buffer.Goals as goal

pub returns-then-len-ge256-clause-fault : goal.returns-then-len-ge256-clause-fault
returns-then-len-ge256-clause-fault c =
    names_full _ c.args.name.now (omega (
      arith,
      c.if-len-ge256.true,
      c.len.ensures,
      c.args.buffers.now.ok.0,
      length-map c.args.buffers.now.items (λ (buffer : BufferConf). buffer.name),
    ))

pub returns-then-has_buffer-clause-fault : goal.returns-then-has_buffer-clause-fault
returns-then-has_buffer-clause-fault c =
    name_doubled _ c.args.name.now (omega (
      arith,
      c.if-len-ge256.false,
      c.len.ensures,
      c.args.buffers.now.ok.0,
      length-map c.args.buffers.now.items (λ (buffer : BufferConf). buffer.name),
    ))
    (sym (rw c.deref.ensures.value at c.if-has_buffer.ensures))

pub returns-clause-fault : goal.returns-clause-fault
returns-clause-fault c =
    name_new _ c.args.name.now (omega (
      arith,
      c.if-len-ge256.false,
      c.len.ensures,
      c.args.buffers.now.ok.0,
      length-map c.args.buffers.now.items (λ (buffer : BufferConf). buffer.name),
    ))
    (sym (rw c.deref.ensures.value at c.if-has_buffer.ensures))
