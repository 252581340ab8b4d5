use Rattle.relay_drill.proofs.Crashes.{leaves_same, revived}
use Rattle.relay_drill.proofs.Stores.{given_back, seen}
use Rattle.relay_drill.proofs.reviving.revive.Goals as goal

-- what is taken back, and looked at, leaves each block as the kill left it
pub returns-in-Ok : goal.returns-in-Ok
returns-in-Ok g c =
    let left = c.in-Ok.field-0.stores in
    revived c.in-Ok.field-0.config c.args.now c.args.life _ c.revive_stores.result
    c.in-Ok.ensures.config
    (leaves_same c.args.life.relay left.items _
    (given_back seen left.items c.deref_mut.result.now c.last_history-last.new.stores _ left.len
    left.ok.0 c.deref_mut.ensures.value c.last_history-last.ensures)
    c.in-Ok.ensures.left)
    c.revive_stores.ensures
