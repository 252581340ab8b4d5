use Rattle.std.proofs.Common.{subst, sym}
use Rattle.peer_session.specs.Table.{IsTable}
use Rattle.peer_session.proofs.table.Table.append.Goals as goal
use Rattle.peer_session.proofs.table.Table.append.Goals.{else-len-eq-PLACES, then-len-eq-PLACES}

pub push-requires-clause-table : goal.push-requires-clause-table
push-requires-clause-table c =
    elim c.if-len-eq-PLACES.branch [
      | then-len-eq-PLACES w ↦ subst IsTable (sym w.self-is) w.close_up.ensures.table
      | else-len-eq-PLACES w ↦ subst IsTable (sym w.self-is) c.requires.table
    ]
