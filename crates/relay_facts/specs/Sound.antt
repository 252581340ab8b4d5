-- What the configuration sees to (docs/FORMATS.md, Configuration; docs/PROTOCOL.md, Limits): the
-- terms are sound. Nothing else is assumed of them.
use Rattle.std.specs.Prelude.{◌≡◌, ℕ, ◌≤◌, ◌<◌, ◌^◌, All, slice_get, Some, IsTrue}
use Rattle.news_terms.specs.Path.{is_agent}
use Rattle.news_terms.specs.Settings.{AreSound}
use Rattle.relay_model.specs.Terms.{Terms, FeedTerms}

-- buffers, groups, classes, feeds and identities are as they may be configured
pub record IsSound (w : Terms) : Type 0 where
  -- so are buffers and groups
  pub places : AreSound w.buffers w.groups
  -- a token has room for each class
  pub classes : All (λ entry. entry.class < 2 ^ 8) w.entries
  -- a ring holds a token at least, and a peer has at most one feed
  pub rings : All (λ feed. 1 ≤ feed.ring) w.feeds
  pub own_feed : (i j : ℕ) (a b : FeedTerms) → slice_get w.feeds i ≡ Some a
      → slice_get w.feeds j ≡ Some b → a.peer ≡ b.peer → i ≡ j
  -- the own identity and those of the peers may stand in a Path
  pub own : IsTrue (is_agent w.own)
  pub peers : All (λ peer. IsTrue (is_agent peer)) w.peers
