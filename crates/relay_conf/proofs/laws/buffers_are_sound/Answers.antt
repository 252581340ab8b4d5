use Rattle.std.proofs.Common.{arith}
use Rattle.relay_conf.proofs.SoundCycbuff.{as_many_groups, as_many_numbered}
use Rattle.relay_conf.proofs.laws.buffers_are_sound.Goals as goal

pub returns-clause-few_buffers : goal.returns-clause-few_buffers
returns-clause-few_buffers c =
    let settings = c.args.buffers.now in
    omega (arith, settings.few_buffers, as_many_numbered settings.buffers.items)

pub returns-clause-few_groups : goal.returns-clause-few_groups
returns-clause-few_groups c =
    let settings = c.args.buffers.now in
    omega (arith, settings.few_groups, as_many_groups settings)
