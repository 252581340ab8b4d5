use Rattle.std.proofs.Common.{◌+◌, ℕ, List, map, ap, refl, sym, ◌∙◌, arith}
use Rattle.std.proofs.lemmas.List.{length-map, take_all}
use Rattle.std.specs.Prelude.{slice_get}
use Rattle.live_jobs.specs.declared.outcome.FinishedJob.{FinishedJob}
use Rattle.live_jobs.specs.Gathered.{kept_by_all}
use Rattle.live_jobs.specs.Taken.{kept_in}
use Rattle.live_jobs.proofs.Passes.{read_at, length_set, map_at, map_set_same}
use Rattle.live_jobs.proofs.Counts.{kept_next, here_next}
use Rattle.live_jobs.proofs.Rows.{below_same}
use Rattle.live_jobs.proofs.count.lend_all.Goals as goal

pub loop-group-init : goal.loop-group-init
loop-group-init g c = record {
  count = refl;
  parts = c.requires.none.0;
  amount = c.requires.none.1;
  here = λ k w past at. c.requires.here k w at;
  finished = refl;
  pass = refl;
  closed = refl;
}

pub lend-requires : goal.lend-requires
lend-requires g c =
    let inv = c.loop-group.invariant in
    let below = below_same _ _ _ c.loop-group-test.true
    (c.len-group-end.ensures ∙ c.args.writers.now.ok.0 ∙ sym inv.count) in
    record {
      here = inv.here c.loop-group.group c.index_mut.result.now (omega arith)
          (read_at c.loop-group.writers.items c.loop-group.group c.index_mut.result.now below
          c.index_mut.ensures.value);
    }

pub loop-group-preserved : goal.loop-group-preserved
loop-group-preserved g c =
    let inv = c.loop-group.invariant in
    let below = below_same _ _ _ c.loop-group-test.true
    (c.len-group-end.ensures ∙ c.args.writers.now.ok.0 ∙ sym inv.count) in
    let at = read_at c.loop-group.writers.items c.loop-group.group c.index_mut.result.now below
    c.index_mut.ensures.value in
    let e = c.lend.ensures in
    let next = kept_next g.O.Outcome.kept (map (λ w. w.finished.items) c.args.writers.now.items)
    c.loop-group.group _
    (ap (λ (l : List (List (FinishedJob _))). slice_get l c.loop-group.group) (sym inv.finished)
    ∙ map_at (λ w. w.finished.items) c.loop-group.writers.items c.loop-group.group
    c.index_mut.result.now at) in
    record {
      count = length_set c.loop-group.writers.items c.loop-group.group c.lend.new.self ∙ inv.count;
      parts = e.all.0 ∙ ap (λ (n : ℕ). n + 1) inv.parts;
      amount = e.all.1 ∙ ap (λ (n : ℕ). n
          + kept_in g.O.Outcome.kept c.index_mut.result.now.finished.items) inv.amount ∙ sym next;
      here = here_next (λ w. w.lent) c.loop-group.writers.items c.loop-group.group
          c.lend.new.self inv.here;
      finished = map_set_same (λ w. w.finished.items) c.loop-group.writers.items c.loop-group.group
          c.index_mut.result.now c.lend.new.self at e.same.1 ∙ inv.finished;
      pass = map_set_same (λ w. w.pass) c.loop-group.writers.items c.loop-group.group
          c.index_mut.result.now c.lend.new.self at e.same.0 ∙ inv.pass;
      closed = map_set_same (λ w. w.closed.items) c.loop-group.writers.items c.loop-group.group
          c.index_mut.result.now c.lend.new.self at e.same.2 ∙ inv.closed;
    }

pub returns : goal.returns
returns g c =
    let all = c.args.writers.now.ok.0 in
    let inv = c.loop-group.invariant in
    let past = c.loop-group-test.false in
    let long = length-map c.args.writers.now.items (λ w. w.finished.items) in
    record {
      parts = omega (arith, inv.parts, c.len-group-end.ensures);
      amount = inv.amount
          ∙ ap (kept_by_all g.O.Outcome.kept) (take_all c.loop-group.group
          (map (λ w. w.finished.items) c.args.writers.now.items)
          (omega (arith, c.len-group-end.ensures)));
      finished = inv.finished;
      pass = inv.pass;
      closed = inv.closed;
    }
