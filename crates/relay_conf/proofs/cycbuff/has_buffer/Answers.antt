use Rattle.std.proofs.Common.{◌∙◌, ap, sym}
use Rattle.std.specs.Prelude.{bytes_eq}
use Rattle.relay_conf.specs.declared.cycbuff.BufferConf.{BufferConf}
use Rattle.relay_conf.proofs.Numbered.{any_later, any_there}
use Rattle.relay_conf.proofs.cycbuff.has_buffer.Goals as goal

pub returns-then-is : goal.returns-then-is
returns-then-is c =
    any_there (bytes_eq c.args.name.now) (λ (buffer : BufferConf). buffer.name) c.args.buffers.now
    c.loop-buffer.buffer-index c.buffer-item.result c.loop-buffer-test.true c.loop-buffer.invariant
    (sym (c.is.ensures ∙ ap (bytes_eq c.args.name.now) c.as_slice.ensures
    ∙ ap (λ (buffer : BufferConf). bytes_eq c.args.name.now buffer.name) c.buffer-item.is)
    ∙ c.if-is.true)

pub loop-buffer-preserved : goal.loop-buffer-preserved
loop-buffer-preserved c =
    any_later (bytes_eq c.args.name.now) (λ (buffer : BufferConf). buffer.name) c.args.buffers.now
    c.loop-buffer.buffer-index c.buffer-item.result c.loop-buffer-test.true c.loop-buffer.invariant
    (sym (c.is.ensures ∙ ap (bytes_eq c.args.name.now) c.as_slice.ensures
    ∙ ap (λ (buffer : BufferConf). bytes_eq c.args.name.now buffer.name) c.buffer-item.is)
    ∙ c.if-is.false)
