use Rattle.std.proofs.Common.{Some, ap, refl, subst, sym}
use Rattle.relay_core.proofs.Starts.{not_opened, starts}
use Rattle.relay_core.specs.Starting.{StartsOver}
use Rattle.relay_core.specs.declared.system.System.{System}
use Rattle.relay_core.proofs.system.System.start.Goals as goal

-- a head isn't opened
pub returns-in-Err-open-clause-refused : goal.returns-in-Err-open-clause-refused
returns-in-Err-open-clause-refused g c =
    let is = c.in-Ok-ready.ensures.readied in
    not_opened c.args.config c.args.stores.items c.args.text.now c.in-Err-open.unstarted is.history
    is.reads is.only c.in-Ok-ready.readied.unopened is.from_stores is.behind
    c.in-Err-open.ensures.refusal

-- it is started
pub returns-in-Ok-open-clause-started : goal.returns-in-Ok-open-clause-started
returns-in-Ok-open-clause-started g c =
    let is = c.in-Ok-ready.ensures.readied in
    subst (λ (s : System g.row.S.Denot g.S.BlockStore).
    StartsOver c.args.config c.args.stores.items c.args.text.now s) (sym c.with.ensures)
    (starts c.args.config c.args.stores.items _ c.args.text.now is.history
    c.in-Ok-ready.readied.unopened c.in-Ok-ready.readied.desks refl is.reads is.only is.behind
    is.from_stores c.in-Ok-open.ensures.opened is.stop_is (ap Some is.newest_is)
    c.new-2.ensures.none is.desks refl refl refl refl is.keeps c.in-Ok-open.ensures.keeps)
