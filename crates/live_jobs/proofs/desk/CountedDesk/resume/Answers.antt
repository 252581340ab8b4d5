use Rattle.std.proofs.Common.{sym, subst, map, arith}
use Rattle.feed_queue.specs.Feeds.{ring_size}
use Rattle.id_history.specs.Views.{feed_view}
use Rattle.live_jobs.specs.Posting.{KeepsAtMost}
use Rattle.live_jobs.proofs.PostingLemmas.{kept_resumed}
use Rattle.live_jobs.proofs.desk.CountedDesk.resume.Goals as goal

-- no list that the desk keeps is longer than the most of those that were left
pub invariant_of-result : goal.invariant_of-result
invariant_of-result g c = record {
  counted = sym c.requires.book;
  room = omega (arith, c.most_of-before.ensures, c.requires.few);
  kept = subst (λ n. ∥ KeepsAtMost c.in_ok-desk.desk n ∥₁)
      (omega (arith, c.most_of-before.ensures))
      (kept_resumed c.in_ok-desk.desk (map feed_view c.args.kept.now)
      (map ring_size c.args.feeds.now) c.each_was_left.ensures c.requires.holds
      c.in_ok-desk.ensures);
}
