use Rattle.std.proofs.Common.{List, ℕ, subst}
use Rattle.block_shelf.proofs.Starts.{err_so, ok_so}
use Rattle.relay_core.specs.Starting.{IsNotStarted, StartsOver}
use Rattle.relay_repair.proofs.Revived.{revives}
use Rattle.relay_repair.specs.Reviving.{HasNoStart}
use Rattle.relay_repair.specs.Telling.{octets_in}
use Rattle.relay_repair.proofs.reviving.revive.Goals as goal

pub returns-clause-revived : goal.returns-clause-revived
returns-clause-revived g c =
    ok_so c.start-revived.result c.start-revived.ensures.started c.start-revived.ensures.started
    (λ system starts also.
    revives c.args.config c.args.stores.items c.in-Ok.stopped.stores.items (octets_in c.args.text)
    c.args.now c.in-Ok.stopped.history.items system c.in-Ok.ensures.left
    (subst (λ (text : List ℕ). StartsOver c.args.config c.in-Ok.stopped.stores.items text system)
    c.deref.ensures.value starts))

pub returns-clause-refused : goal.returns-clause-refused
returns-clause-refused g c =
    err_so c.start-revived.result c.start-revived.ensures.refused c.start-revived.ensures.refused
    (λ why is also.
    HasNoStart c.in-Ok.stopped.stores.items c.in-Ok.stopped.history.items c.in-Ok.ensures.repaired
    (subst (λ (text : List ℕ). IsNotStarted g.S.BlockStore c.args.config
    c.in-Ok.stopped.stores.items text why) c.deref.ensures.value is))
