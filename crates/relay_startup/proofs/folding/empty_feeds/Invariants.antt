use Rattle.std.proofs.Common.{◌≡◌, map}
use Rattle.std.specs.Prelude.{replicate}
use Rattle.id_history.specs.Views.{feed_view}
use Rattle.relay_startup.specs.LastHistory.{empty_feed}
use Rattle.relay_startup.proofs.folding.empty_feeds.Given as goal

-- so many feeds so far
abbrev pub invariant-loop : goal.invariant-loop
invariant-loop l = map feed_view l.feeds.items ≡ replicate l.counter empty_feed
