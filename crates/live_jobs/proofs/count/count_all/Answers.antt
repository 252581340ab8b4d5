use Rattle.std.proofs.Common.{◌∙◌, List, ap, map, sym}
use Rattle.live_jobs.specs.Gathered.{kept_by_all}
use Rattle.live_jobs.specs.declared.writer.WriterSeat.{WriterSeat}
use Rattle.live_jobs.proofs.Passes.{read_at, map_set_same}
use Rattle.live_jobs.proofs.Counts.{at_most, here_set}
use Rattle.live_jobs.proofs.count.count_all.Goals as goal

pub lend_all-requires-clause-here : goal.lend_all-requires-clause-here
lend_all-requires-clause-here g c =
    let at = read_at c.args.writers.now.items 0 _ c.requires.parts.1 c.index_mut.ensures.value in
    here_set (λ w. w.lent) c.args.writers.now.items 0 _
    (c.no_share-all.ensures.same.3 ∙ c.requires.here 0 _ at) c.requires.here

-- what all kept is what the shares count, and so what the desk posted
pub sum_kept-requires : goal.sum_kept-requires
sum_kept-requires g c =
    let kept = kept_by_all g.O.Outcome.kept in
    let these = ap (λ (l : List (WriterSeat _ _ _)). kept (map (λ w. w.finished.items) l))
    c.deref.ensures.value in
    let same = ap kept c.lend_all.ensures.finished in
    at_most _ _ (these ∙ same ∙ sym c.lend_all.ensures.amount
    ∙ sym c.posted-posted.ensures.amount ∙ sym c.count.ensures)

pub returns : goal.returns
returns g c =
    let at = read_at c.args.writers.now.items 0 _ c.requires.parts.1 c.index_mut.ensures.value in
    let none = c.no_share-all.ensures.same in
    let lent = c.lend_all.ensures in
    let these = ap (λ (l : List (WriterSeat _ _ _)). kept_by_all g.O.Outcome.kept
    (map (λ w. w.finished.items) l)) c.deref.ensures.value in
    record {
      accepted = c.sum_kept.ensures ∙ these
          ∙ ap (kept_by_all g.O.Outcome.kept) (lent.finished
          ∙ map_set_same (λ w. w.finished.items) c.args.writers.now.items 0 _ _ at none.1);
      posted = c.posted-posted.ensures.amount ∙ lent.amount
          ∙ ap (kept_by_all g.O.Outcome.kept) (sym lent.finished)
          ∙ sym these ∙ sym c.sum_kept.ensures;
      made = c.posted-posted.ensures.posts;
      same = c.posted-posted.ensures.same;
      rings = c.posted-posted.ensures.desk;
      finished = lent.finished
          ∙ map_set_same (λ w. w.finished.items) c.args.writers.now.items 0 _ _ at none.1;
      pass = lent.pass ∙ map_set_same (λ w. w.pass) c.args.writers.now.items 0 _ _ at none.0;
      closed = lent.closed
          ∙ map_set_same (λ w. w.closed.items) c.args.writers.now.items 0 _ _ at none.2;
    }
