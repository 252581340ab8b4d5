-- Which feeds may have an article, as the program's values show it (RFC 5537 section 3.6).
use Rattle.std.specs.Prelude.{◌≡◌, ℕ, Bool, not, ◌&&◌, ◌||◌, List, map, filter, option_map}
use Rattle.std.specs.Borrow.{Bor}
use Rattle.std.specs.List.{enumerate_from, list_any}
use Rattle.news_terms.specs.Article.{Article, message_id, newsgroups}
use Rattle.news_terms.specs.Pattern.{Marked, verdict, is_match, is_poison}
use Rattle.relay_conf.specs.declared.hash_feeds.HashFeed.{HashFeed}
use Rattle.relay_conf.specs.declared.relay.Feed.{Feed}
use Rattle.relay_conf.specs.declared.relay.Peer.{Peer}
use Rattle.relay_model.specs.HashFeeds as terms
use Rattle.relay_model.specs.Judging.{is_permitted, path_of}
use Rattle.relay_model.specs.Terms.{Terms, FeedTerms}

-- the octets of a newsgroup name
abbrev pub octets_of : Bor (List ℕ) → List ℕ
octets_of name = name.now

-- a peer by its identity
abbrev pub identity_view : Peer → List ℕ
identity_view peer = peer.identity

-- a part of the articles as the definitions have it
abbrev pub hash_view : HashFeed → terms.HashFeed
hash_view part = record { first = part.first; last = part.last; parts = part.parts }

-- a feed of the configuration as the definitions have it
abbrev pub feed_view : Feed → FeedTerms
feed_view feed =
    record {
      peer = feed.peer;
      ring = feed.ring;
      expression = feed.expression;
      hash = option_map hash_view feed.hash;
    }

-- the relay is set up with these peers and these feeds
pub record HasFeeds (w : Terms) (peers : List Peer) (feeds : List Feed) : Type 0 where
  pub identities : w.peers ≡ map identity_view peers
  pub each : w.feeds ≡ map feed_view feeds

-- the article has these newsgroups, this Path and this message-id
pub record HasParts (a : Article) (groups : List (List ℕ)) (path id : List ℕ) : Type 0 where
  pub newsgroups : newsgroups a.fields ≡ groups
  pub received : path_of a ≡ path
  pub message_id : message_id a.fields ≡ id

-- the numbers of those of these feeds that may have the article
abbrev pub permitted_of : Terms → (from : ℕ) → Article → List FeedTerms → List ℕ
permitted_of w from a feeds =
    map (λ (one : ℕ × FeedTerms). one.0)
    (filter (λ (one : ℕ × FeedTerms). is_permitted w from a one.1) (enumerate_from 0 feeds))

-- whether the expression permits the groups, where one that was judged is Match or none is yet, and
-- these are left
abbrev pub permits_rest : List Marked → (has_match : Bool) → (rest : List (List ℕ)) → Bool
permits_rest expression has_match rest =
    (has_match || list_any (λ name. is_match (verdict expression name)) rest)
    && not (list_any (λ name. is_poison (verdict expression name)) rest)
