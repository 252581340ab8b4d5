use Rattle.std.proofs.Common.{◌+◌, ap, map, arith}
use Rattle.live_jobs.specs.declared.writer.WriterSeat.{WriterSeat}
use Rattle.live_jobs.proofs.Passes.{read_at, map_at}
use Rattle.live_jobs.proofs.Counts.{kept_next, kept_most}
use Rattle.live_jobs.proofs.count.sum_kept.Goals as goal

pub overflow_add-accepted : goal.overflow_add-accepted
overflow_add-accepted g c =
    let at = read_at _ _ _ c.loop-group-test.true c.index-writers-group.is in
    let finished_lists = map (λ w. w.finished.items) c.args.writers.now in
    let next = kept_next g.O.Outcome.kept finished_lists c.loop-group.group _
    (map_at (λ w. w.finished.items) c.args.writers.now c.loop-group.group _ at) in
    let most = kept_most g.O.Outcome.kept finished_lists (c.loop-group.group + 1) in
    let small = c.ranges.most.fits in
    let is = c.index-writers-group.result.counted in
    let here = ap (λ (w : WriterSeat _ _ _). w.kept) c.index-writers-group.is in
    record { fits = omega (arith, c.requires, c.loop-group.invariant) }

pub loop-group-preserved : goal.loop-group-preserved
loop-group-preserved g c =
    let at = read_at _ _ _ c.loop-group-test.true c.index-writers-group.is in
    let next = kept_next g.O.Outcome.kept (map (λ w. w.finished.items) c.args.writers.now)
    c.loop-group.group _
    (map_at (λ w. w.finished.items) c.args.writers.now c.loop-group.group _ at) in
    let is = c.index-writers-group.result.counted in
    let here = ap (λ (w : WriterSeat _ _ _). w.kept) c.index-writers-group.is in
    omega (arith, c.loop-group.invariant)
