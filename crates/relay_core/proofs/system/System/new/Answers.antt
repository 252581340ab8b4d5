use Rattle.std.proofs.Common.{subst, sym}
use Rattle.block_shelf.specs.Filling.{KeepsNothing}
use Rattle.relay_conf.specs.declared.settings.Config.{Config}
use Rattle.relay_core.proofs.Beginnings.{begins}
use Rattle.relay_core.specs.Beginning.{BeginsOver}
use Rattle.relay_core.specs.Unbuffered.{with_buffers}
use Rattle.relay_core.specs.declared.system.System.{System}
use Rattle.relay_core.proofs.system.System.new.Goals as goal

-- the parts begin
pub returns-in-Ok-new-clause-begins : goal.returns-in-Ok-new-clause-begins
returns-in-Ok-new-clause-begins g c =
    let is = c.in-Ok.ensures in
    let K : Config → Type 0 = λ config. KeepsNothing config.buffers c.args.stores.items
    c.in-Ok-new.buffer_set in
    subst (λ (s : System g.row.S.Denot g.S.BlockStore). BeginsOver c.args.config
    c.args.stores.items s)
    (sym c.with.ensures)
    (begins (with_buffers c.in-Ok.unbuffered c.in-Ok-new.buffer_set) c.args.config
    c.args.stores.items is.config_is is.newest_is is.stop_is is.nobody is.desks.claims is.desks.desk
    is.desks.group_writers (subst K is.config_is c.in-Ok-new.ensures.nothing) is.desks.expirer)

-- what a buffer set blames, the relay does
pub returns-in-Err-new-clause-refusal : goal.returns-in-Err-new-clause-refusal
returns-in-Err-new-clause-refusal g c =
    c.unbegun.ensures c.args.stores.items c.in-Err-new.ensures.refusal
