use Rattle.std.proofs.Common.{◌∙◌, ap, sym, Bool}
use Rattle.std.specs.Prelude.{bytes_eq}
use Rattle.relay_conf.specs.declared.cycbuff.BufferConf.{BufferConf}
use Rattle.relay_conf.proofs.Numbered.{later}
use Rattle.relay_conf.proofs.cycbuff.place_of.Goals as goal

pub loop-number-preserved : goal.loop-number-preserved
loop-number-preserved c =
    let has : BufferConf → Bool = λ buffer. bytes_eq c.args.name.now buffer.name in
    later has c.args.buffers.now c.loop-number.number _ c.index-buffers-number.result
    c.loop-number-test.true c.loop-number.invariant
    (sym (c.is.ensures ∙ ap (bytes_eq c.args.name.now) c.as_slice.ensures
    ∙ ap has c.index-buffers-number.is)
    ∙ c.if-is.false)
