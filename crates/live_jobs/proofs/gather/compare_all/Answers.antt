use Rattle.std.proofs.Common.{◌≡◌, ◌<◌, ◌≤◌, ℕ, List, [], length, map, refl, ap, sym, ◌∙◌, subst}
use Rattle.std.specs.Prelude.{slice_get}
use Rattle.std.proofs.lemmas.List.{length-map}
use Rattle.job_queue.specs.Delivery.{end_limit}
use Rattle.live_jobs.specs.declared.outcome.FinishedJob.{FinishedJob}
use Rattle.live_jobs.specs.Gathered.{AllClosed, IsRest, told_of}
use Rattle.live_jobs.specs.Seats.{left_by}
use Rattle.live_jobs.proofs.Passes.{length_set, map_at, map_set_same}
use Rattle.live_jobs.proofs.Rows.{below_past, below_same, past_same}
use Rattle.live_jobs.proofs.Writers.{writers_at, writers_set, rest_at, rests_set, told_group}
use Rattle.live_jobs.proofs.Writers.{none_group, within}
use Rattle.live_jobs.proofs.gather.compare_all.Goals as goal

pub index_mut-requires-in-loop-group : goal.index_mut-requires-in-loop-group
index_mut-requires-in-loop-group g c =
    let inv = c.loop-group.invariant in
    let all = c.len-group-end.ensures ∙ c.args.writers.now.ok.0 ∙ sym inv.count
    ∙ sym (length-map c.loop-group.writers.items (λ w. w.pass)) in
    below_same _ _ _ c.loop-group-test.true
    (all ∙ inv.writers.0 ∙ sym inv.rests.0 ∙ sym c.loop-group.rests.ok.0)

pub compare_group-requires-clause-group : goal.compare_group-requires-clause-group
compare_group-requires-clause-group g c =
    let inv = c.loop-group.invariant in
    let below = below_same _ _ _ c.loop-group-test.true
    (c.len-group-end.ensures ∙ c.args.writers.now.ok.0 ∙ sym inv.count) in
    (writers_at (λ w. w.pass) (λ w. w.closed.items) c.args.channels.now
    (length c.args.lefts.now.items) c.loop-group.writers.items c.loop-group.group
    c.index_mut.result.now inv.writers below c.index_mut.ensures.value).3

pub compare_group-requires-clause-writer : goal.compare_group-requires-clause-writer
compare_group-requires-clause-writer g c =
    let inv = c.loop-group.invariant in
    let below = below_same _ _ _ c.loop-group-test.true
    (c.len-group-end.ensures ∙ c.args.writers.now.ok.0 ∙ sym inv.count) in
    (writers_at (λ w. w.pass) (λ w. w.closed.items) c.args.channels.now
    (length c.args.lefts.now.items) c.loop-group.writers.items c.loop-group.group
    c.index_mut.result.now inv.writers below c.index_mut.ensures.value).1

pub compare_group-requires-clause-closed : goal.compare_group-requires-clause-closed
compare_group-requires-clause-closed g c =
    let inv = c.loop-group.invariant in
    let below = below_same _ _ _ c.loop-group-test.true
    (c.len-group-end.ensures ∙ c.args.writers.now.ok.0 ∙ sym inv.count) in
    subst (λ n. AllClosed n c.index_mut.result.now.closed.items) (sym inv.long)
    (writers_at (λ w. w.pass) (λ w. w.closed.items) c.args.channels.now
    (length c.args.lefts.now.items) c.loop-group.writers.items c.loop-group.group
    c.index_mut.result.now inv.writers below c.index_mut.ensures.value).2

pub compare_group-requires-clause-rest : goal.compare_group-requires-clause-rest
compare_group-requires-clause-rest g c =
    let inv = c.loop-group.invariant in
    let all = c.len-group-end.ensures ∙ c.args.writers.now.ok.0 ∙ sym inv.count
    ∙ sym (length-map c.loop-group.writers.items (λ w. w.pass)) in
    let below = below_same _ _ _ c.loop-group-test.true (all ∙ inv.writers.0 ∙ sym inv.rests.0) in
    let rest = rest_at c.args.channels.now (length c.args.lefts.now.items) c.loop-group.rests.items
    c.loop-group.group c.index_mut-in-loop-group.result.now inv.rests below
    c.index_mut-in-loop-group.ensures.value in (
      rest.1,
      subst (λ n. IsRest n c.index_mut-in-loop-group.result.now) (sym inv.long) rest.2,
    )

pub loop-group-preserved : goal.loop-group-preserved
loop-group-preserved g c =
    let inv = c.loop-group.invariant in
    let below = below_same _ _ _ c.loop-group-test.true
    (c.len-group-end.ensures ∙ c.args.writers.now.ok.0 ∙ sym inv.count) in
    let at = writers_at (λ w. w.pass) (λ w. w.closed.items) c.args.channels.now
    (length c.args.lefts.now.items) c.loop-group.writers.items c.loop-group.group
    c.index_mut.result.now inv.writers below c.index_mut.ensures.value in
    let e = c.compare_group.ensures in
    let finished = ap (λ (l : List (List (FinishedJob _))). slice_get l c.loop-group.group)
    (sym inv.finished) ∙ map_at (λ w. w.finished.items) c.loop-group.writers.items
    c.loop-group.group c.index_mut.result.now at.0 in
    record {
      fit = e.lefts;
      long = sym (length-map c.compare_group.new.lefts.items left_by) ∙ ap length e.handed
          ∙ length-map c.loop-group.lefts.items left_by ∙ inv.long;
      count = length_set c.loop-group.writers.items c.loop-group.group c.compare_group.new.writer
          ∙ inv.count;
      handed = e.handed ∙ inv.handed;
      writers = writers_set (λ w. w.pass) (λ w. w.closed.items) c.args.channels.now
          (length c.args.lefts.now.items) c.loop-group.writers.items c.loop-group.group
          c.index_mut.result.now c.compare_group.new.writer inv.writers at.0 e.pass e.writer.1;
      rests = rests_set c.args.channels.now (length c.args.lefts.now.items) c.loop-group.rests.items
          c.loop-group.group c.compare_group.new.rest inv.rests e.rest.0
          (subst (λ n. IsRest n c.compare_group.new.rest) inv.long e.rest.1);
      finished = map_set_same (λ w. w.finished.items) c.loop-group.writers.items
          c.loop-group.group c.index_mut.result.now c.compare_group.new.writer at.0 e.writer.0
          ∙ inv.finished;
      told = told_group g.O.Outcome.fits _ _ _ _ _ _ _ finished refl inv.handed refl e.told
          inv.told;
      none = none_group _ _ _ _ finished
          (subst (λ (n : ℕ). (k : ℕ) → n ≤ k → k < end_limit
          → told_of k c.index_mut.result.now.finished.items ≡ []) inv.long e.none) inv.none;
    }

pub returns : goal.returns
returns g c =
    let inv = c.loop-group.invariant in
    let many : length (map (λ w. w.finished.items) c.args.writers.now.items) ≤ c.loop-group.group =
    past_same _ _ _ c.loop-group-test.false (c.len-group-end.ensures ∙ c.args.writers.now.ok.0
    ∙ sym (length-map c.args.writers.now.items (λ w. w.finished.items))) in
    record {
      lefts = inv.fit;
      long = inv.long;
      handed = inv.handed;
      writers = inv.writers;
      rests = inv.rests;
      finished = inv.finished;
      told = λ k e finished handed jobs at.
          let less = within (map (λ w. w.finished.items) c.args.writers.now.items) k finished at in
          inv.told k e finished handed jobs (below_past _ _ _ less many) at;
      none = λ k e finished at.
          let less = within (map (λ w. w.finished.items) c.args.writers.now.items) k finished at in
          inv.none k e finished (below_past _ _ _ less many) at;
    }
