use Rattle.std.proofs.Common.{List, subst, ℕ}
use Rattle.relay_core.specs.Starting.{StartsOver}
use Rattle.relay_drill.proofs.Crashes.{starts_of, unrepaired_fails}
use Rattle.relay_drill.proofs.Stores.{are_honest}
use Rattle.relay_drill.proofs.reviving.revive_stores.Goals as goal

pub returns-in-Ok-start : goal.returns-in-Ok-start
returns-in-Ok-start g c =
    starts_of c.args.config c.args.stores.items c.in-Ok.stopped.stores.items _ c.args.now
    c.in-Ok.stopped.history.items c.in-Ok-start.relay (are_honest c.args.stores.items)
    c.in-Ok.ensures.left
    (subst (λ (text : List ℕ). StartsOver c.args.config c.in-Ok.stopped.stores.items text
    c.in-Ok-start.relay) c.deref-3.ensures.value c.in-Ok-start.ensures.started)

pub returns-in-Err : goal.returns-in-Err
returns-in-Err g c =
    unrepaired_fails c.in-Err.why c.unrepaired.result c.unrepaired.ensures

pub returns-in-Err-start : goal.returns-in-Err-start
returns-in-Err-start g c =
    unrepaired_fails c.in-Err-start.why c.unrepaired-in-Err-start.result
    c.unrepaired-in-Err-start.ensures
