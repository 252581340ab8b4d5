use Rattle.std.proofs.Common.{◌≡◌, ◌<◌, ◌^◌, ◌++◌, All, drop, length, map}
use Rattle.id_history.specs.Views.{feed_view}
use Rattle.id_history.specs.declared.kept.KeptFeed.{KeptFeed}
use Rattle.named_history.specs.Naming.{feeds_by}
use Rattle.named_history.proofs.feeds.feeds_by.Given as goal

-- the feeds so far and those that what is left gives are those of all; each has its room
abbrev pub invariant-loop-place : goal.invariant-loop-place
invariant-loop-place l =
    record {
      made : map feed_view l.feeds.items
          ++ feeds_by l.known (map feed_view l.left.items) (drop l.place l.own)
          (drop l.place l.rings)
          ≡ feeds_by l.known (map feed_view l.fn.kept.items) l.own l.rings;
      count : length l.feeds.items ≡ l.place;
      room : All (λ (feed : KeptFeed). length feed.waiting.items < 2 ^ 32) l.feeds.items;
    }
