use Rattle.std.proofs.Common.{◌≤◌, Bool, List, length, ap, sym, ◌∙◌}
use Rattle.std.specs.Prelude.{slice_get}
use Rattle.crossbeam_queue.specs.Passes.{view}
use Rattle.job_queue.specs.declared.known.Known.{Known}
use Rattle.live_jobs.specs.Gathered.{told_of}
use Rattle.live_jobs.proofs.Passes.{length_set, of_channel, read_at}
use Rattle.live_jobs.proofs.Lefts.{left_at, lefts_set, hands_set, told_next, hand_at, told_same}
use Rattle.live_jobs.proofs.Rows.{below_past, below_same, past_same}
use Rattle.live_jobs.proofs.Told.{told_none}
use Rattle.live_jobs.proofs.gather.compare_group.Goals as goal

pub compare-requires-clause-left : goal.compare-requires-clause-left
compare-requires-clause-left g c =
    let inv = c.loop-end.invariant in
    let below = below_same _ _ _ c.loop-end-test.true
    (c.len-end-end.ensures ∙ c.args.lefts.now.ok.0 ∙ sym inv.long) in
    (left_at c.args.channels.now c.loop-end.lefts.items c.loop-end.end
    c.index_mut.result.now inv.fit below c.index_mut.ensures.value).2

pub compare-requires-clause-closed : goal.compare-requires-clause-closed
compare-requires-clause-closed g c =
    let inv = c.loop-end.invariant in
    let below = below_same _ _ _ c.loop-end-test.true
    (c.len-end-end.ensures ∙ c.args.lefts.now.ok.0 ∙ sym inv.long) in
    let at = left_at c.args.channels.now c.loop-end.lefts.items c.loop-end.end
    c.index_mut.result.now inv.fit below c.index_mut.ensures.value in
    ap (λ (l : List Bool). slice_get l c.index_mut.result.now.end) inv.closed
    ∙ ap (slice_get c.args.writer.now.closed.items) at.1
    ∙ c.requires.closed.1 c.loop-end.end (below_same _ _ _ below inv.long)

pub loop-end-preserved : goal.loop-end-preserved
loop-end-preserved g c =
    let inv = c.loop-end.invariant in
    let below = below_same _ _ _ c.loop-end-test.true
    (c.len-end-end.ensures ∙ c.args.lefts.now.ok.0 ∙ sym inv.long) in
    let at = left_at c.args.channels.now c.loop-end.lefts.items c.loop-end.end
    c.index_mut.result.now inv.fit below c.index_mut.ensures.value in
    let e = c.compare.ensures in
    record {
      fit = lefts_set c.args.channels.now c.loop-end.lefts.items c.loop-end.end c.compare.new.self
          inv.fit (e.end ∙ at.1) e.left;
      long = length_set c.loop-end.lefts.items c.loop-end.end c.compare.new.self ∙ inv.long;
      handed = hands_set c.loop-end.lefts.items c.loop-end.end c.index_mut.result.now
          c.compare.new.self at.0 e.handed ∙ inv.handed;
      pass = e.pass;
      finished = e.writer.0 ∙ inv.finished;
      closed = e.writer.1 ∙ inv.closed;
      told = told_next g.O.Outcome.fits _ _ _ _ _
          (hand_at c.loop-end.lefts.items _ _ _ at.0 inv.handed)
          (λ jobs is. told_same g.O.Outcome.fits _ _ _ _ _ at.1 inv.finished (e.told jobs is))
          inv.told;
    }

pub compare_rest-requires-clause-passes : goal.compare_rest-requires-clause-passes
compare_rest-requires-clause-passes g c =
    let channel = read_at _ _ _ c.requires.group c.index-channels-group.is in
    (c.loop-end.invariant.pass _ channel, c.requires.rest.0 _ channel)

pub compare_rest-requires-clause-none : goal.compare_rest-requires-clause-none
compare_rest-requires-clause-none g c = ap (λ (k : Known). k.handed) c.requires.rest.1

pub returns : goal.returns
returns g c =
    let inv = c.loop-end.invariant in
    let e = c.compare_rest.ensures in
    let many : length c.args.lefts.now.items ≤ c.loop-end.end =
    past_same _ _ _ c.loop-end-test.false (c.len-end-end.ensures ∙ c.args.lefts.now.ok.0) in
    record {
      lefts = inv.fit;
      handed = inv.handed;
      pass = of_channel _ _ _ c.compare_rest.new.writer c.requires.group c.index-channels-group.is
          e.passes.0;
      writer = (inv.finished, inv.closed);
      rest = (
        of_channel _ _ _ c.compare_rest.new.first c.requires.group c.index-channels-group.is
            e.passes.1,
        e.same.1 ∙ c.requires.rest.1,
      );
      told = λ k handed jobs less. inv.told k handed jobs (below_past _ _ _ less many);
      none = λ k from below.
          ap (told_of k) (sym inv.finished)
          ∙ told_none g.O.Outcome.fits (length c.args.lefts.now.items) c.loop-end.writer.pass _ _
          (view c.args.rest.now) c.loop-end.writer.took e.none c.requires.rest.1 k from below;
    }
