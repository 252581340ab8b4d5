use Rattle.std.proofs.Common.{◌≡◌, length, map}
use Rattle.live_jobs.specs.Gathered.{LeftsFit, RestsFit, WritersFit, hands_of}
use Rattle.live_jobs.specs.Gathered.{NoneBefore, ToldBefore}
use Rattle.live_jobs.proofs.gather.compare_all.Given as goal

abbrev pub invariant-loop-group : goal.invariant-loop-group
invariant-loop-group g l = record {
  fit : LeftsFit l.channels l.lefts.items;
  long : length l.lefts.items ≡ length l.fn.lefts.items;
  count : length l.writers.items ≡ length l.fn.writers.items;
  handed : hands_of l.lefts.items ≡ hands_of l.fn.lefts.items;
  writers : WritersFit l.channels (length l.fn.lefts.items) (map (λ w. w.pass) l.writers.items)
      (map (λ w. w.closed.items) l.writers.items);
  rests : RestsFit l.channels (length l.fn.lefts.items) l.rests.items;
  finished : map (λ w. w.finished.items) l.writers.items
      ≡ map (λ w. w.finished.items) l.fn.writers.items;
  told : ToldBefore g.O.Outcome.fits l.group (map (λ w. w.finished.items) l.fn.writers.items)
      (hands_of l.fn.lefts.items);
  none : NoneBefore l.group (length l.fn.lefts.items)
      (map (λ w. w.finished.items) l.fn.writers.items);
}
