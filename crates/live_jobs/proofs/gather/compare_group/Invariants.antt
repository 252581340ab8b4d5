use Rattle.std.proofs.Common.{◌≡◌, length}
use Rattle.live_jobs.specs.Gathered.{OfChannel, LeftsFit, hands_of, ToldBelow}
use Rattle.live_jobs.proofs.gather.compare_group.Given as goal

abbrev pub invariant-loop-end : goal.invariant-loop-end
invariant-loop-end g l = record {
  fit : LeftsFit l.channels l.lefts.items;
  long : length l.lefts.items ≡ length l.fn.lefts.items;
  handed : hands_of l.lefts.items ≡ hands_of l.fn.lefts.items;
  pass : OfChannel l.channels l.group l.writer.pass;
  finished : l.writer.finished.items ≡ l.fn.writer.finished.items;
  closed : l.writer.closed.items ≡ l.fn.writer.closed.items;
  told : ToldBelow g.O.Outcome.fits l.end l.group l.fn.writer.finished.items
      (hands_of l.fn.lefts.items);
}
