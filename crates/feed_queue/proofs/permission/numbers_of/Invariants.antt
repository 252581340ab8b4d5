use Rattle.std.proofs.Common.{◌≡◌, map, take, IfSome}
use Rattle.news_terms.specs.Article.{Article}
use Rattle.relay_model.specs.HashFeeds.{hash_of}
use Rattle.relay_model.specs.Terms.{Terms}
use Rattle.feed_queue.specs.Permission.{HasFeeds, HasParts, octets_of, feed_view, permitted_of}
use Rattle.feed_queue.proofs.permission.numbers_of.Given as goal

-- the numbers are those of the feeds so far, and a hash that is known is that of the message-id
abbrev pub invariant-loop-number : goal.invariant-loop-number
invariant-loop-number l =
    record {
      numbers : (w : Terms) (a : Article) → HasFeeds w l.peers l.feeds
          → HasParts a (map octets_of l.groups) l.path l.id
          → l.numbers.items ≡ permitted_of w l.from a (map feed_view (take l.number l.feeds));
      hash : IfSome l.hash (λ number. number ≡ hash_of l.id);
    }
