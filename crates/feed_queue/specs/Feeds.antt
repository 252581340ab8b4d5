-- Which feeds a desk keeps (docs/PROTOCOL.md, Rings).
use Rattle.std.specs.Prelude.{◌≡◌, ℕ, ◌≤◌, ◌<◌, ◌^◌, List, [], ◌∷◌, length, map, slice_index}
use Rattle.std.specs.Prelude.{slice_index_or}
use Rattle.std.specs.List.{All}
use Rattle.cyc_token.specs.Token.{token_view}
use Rattle.feed_queue.specs.declared.desk.FeedDesk.{FeedDesk}
use Rattle.feed_queue.specs.declared.rings.Ring.{Ring}
use Rattle.news_terms.specs.Ring as terms
use Rattle.news_terms.specs.Token.{Token}
use Rattle.relay_conf.specs.declared.relay.Feed as conf
use Rattle.relay_model.specs.Shares.{as_ring}
use Rattle.relay_model.specs.State.{Feed, empty_state}
use Rattle.relay_model.specs.Writers.{gaining}

-- the tokens that a feed's ring holds at most
abbrev pub ring_size : conf.Feed → ℕ
ring_size feed = feed.ring

-- a feed that gained nothing, as each is before anything came
abbrev pub no_feed : Feed
no_feed = empty_state.feed 0

-- the feed with one token more at the end of its list, as where it alone gains it
abbrev pub with_gained : Feed → Token → Feed
with_gained feed token = gaining (λ f. feed) (0 ∷ []) token 0

-- the ring keeps this feed: it has room for so many tokens, holds the end of the feed's list and
-- counts the list; no more of the list is past taking than it has
pub record KeepsFeed (ring : Ring) (size : ℕ) (feed : Feed) : Type 0 where
  pub room : ring.tokens.capacity ≡ size
  pub tokens : map token_view ring.tokens.items ≡ terms.ring size (as_ring feed)
  pub gained : ring.gained ≡ length feed.gained
  pub passed : ring.passed ≡ feed.passed
  pub taken : ring.taken ≡ feed.taken
  pub within : feed.passed ≤ length feed.gained

-- the rings keep these feeds, each by its number and with its size; of feeds past the last ring
-- nothing is said; `none` would stand for one of those
pub record KeepFeeds (rings : List Ring) (sizes : List ℕ) (feed : ℕ → Feed) : Type 0 where
  pub count : length rings ≡ length sizes
  pub each : (f : ℕ) (none : Ring) → f < length rings
      → KeepsFeed (slice_index_or rings f none) (slice_index sizes f) (feed f)

-- the desk keeps these feeds, in rings of these sizes
abbrev pub KeepsFeeds : FeedDesk → (sizes : List ℕ) → (feed : ℕ → Feed) → Type 0
KeepsFeeds desk sizes feed = KeepFeeds desk.rings.items sizes feed

-- how many rings there are; they are numbered from 0
abbrev pub ring_count : FeedDesk → ℕ
ring_count desk = length desk.rings.items

-- the count of each list is below this number
abbrev pub CountBelow : List Ring → ℕ → Type 0
CountBelow rings most = All (λ (ring : Ring). ring.gained < most) rings

-- no list is so long that its count could not go on
abbrev pub HasRoomToCount : FeedDesk → Type 0
HasRoomToCount desk = CountBelow desk.rings.items (2 ^ 62)
