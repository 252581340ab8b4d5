use Rattle.std.proofs.Common.{◌≡◌, ◌≤◌, length, map, take, vec_len, vec_capacity}
use Rattle.article_verdict.specs.Config.{terms_of}
use Rattle.feed_queue.specs.Feeds.{KeepsFeeds}
use Rattle.relay_core.specs.Agreement.{ring_sizes}
use Rattle.relay_report.specs.Figures.{feed_view, named_feeds}
use Rattle.relay_model.specs.State.{State}
use Rattle.relay_core.proofs.figures.named_feeds.Given as goal

-- the feeds so far are those of the report, and there is room for all
abbrev pub invariant-loop-number : goal.invariant-loop-number
invariant-loop-number l = record {
  count : vec_len l.named ≤ l.number;
  room : length l.config.relay.feeds.items ≤ vec_capacity l.named;
  said : (σ : State) → KeepsFeeds l.desk (ring_sizes (terms_of l.config)) σ.feed
      → map feed_view l.named.items ≡ take l.number (named_feeds l.config σ);
}
