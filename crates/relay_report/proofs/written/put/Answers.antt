use Rattle.std.proofs.Common.{◌++◌, take}
use Rattle.std.proofs.lemmas.List.{take_rest}
use Rattle.relay_report.proofs.Writes.{appends_both, gains_kept, takes_more}
use Rattle.relay_report.proofs.written.put.Goals as goal
use Rattle.relay_report.proofs.written.put.Goals.{in-Ok, in-Err+in-Interrupted}

pub loop-turn-preserved : goal.loop-turn-preserved
loop-turn-preserved g c =
    let so_far = c.loop-turn.invariant in
    elim c.match-write.branch [
      | in-Ok w ↦ (
        so_far.0 ++ take w.in-Ok.count c.loop-turn.rest.now,
        appends_both _ _ _ so_far.0
            (take w.in-Ok.count c.loop-turn.rest.now) so_far.1 w.in-Ok.ensures.bytes,
        rw (w.rest-is, take_rest)
            (takes_more c.args.octets.now so_far.0 c.loop-turn.rest.now w.in-Ok.count so_far.2),
      )
      | in-Err+in-Interrupted w ↦ (
        so_far.0,
        gains_kept _ _ _ so_far.0 so_far.1 w.in-Err.ensures.bytes,
        rw w.rest-is so_far.2,
      )
    ]
