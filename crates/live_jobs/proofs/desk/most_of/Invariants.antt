use Rattle.std.proofs.Common.{◌≡◌, drop, map, max}
use Rattle.id_history.specs.Views.{feed_view}
use Rattle.live_jobs.specs.Posting.{most_gained}
use Rattle.live_jobs.proofs.desk.most_of.Given as goal

-- with those that are still to come it is the most of all
abbrev pub invariant-loop-feed : goal.invariant-loop-feed
invariant-loop-feed l =
    max l.most (most_gained (map feed_view (drop l.feed-index l.kept)))
    ≡ most_gained (map feed_view l.kept)
