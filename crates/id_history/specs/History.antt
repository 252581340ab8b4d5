-- What outlives a clean stop besides the buffers, and its text, relay.hist (docs/FORMATS.md,
-- History file).
use Rattle.std.specs.Prelude.{◌≡◌, ℕ, ◌-◌, ◌≤◌, ◌<◌, ◌^◌, List, [], ◌∷◌, ◌++◌, length, map, min}
use Rattle.std.specs.Prelude.{Option, None, Some, IfSome}
use Rattle.std.specs.Cmp.Lexicographic.{slice_cmp}
use Rattle.std.specs.Int.{to_be_bytes, w32, w64}
use Rattle.std.specs.List.{AllByRecursion, AllZip, flat_map}
use Rattle.std.specs.List.Sorted.{IsStrictlySortedBy}
use Rattle.std.specs.Ordering.{nat_cmp}
use Rattle.news_terms.specs.MessageId.{id_fault}
use Rattle.news_terms.specs.Token.{Token, IsToken, token_octets}
use Rattle.relay_model.specs.Terms.{last_moment}

-- a message-id that is remembered: the token under which its article is stored, or None where an
-- article was refused, and since when
pub record KeptId : Type 0 where
  pub id : List ℕ
  pub token : Option Token
  pub moment : ℕ

-- what is left of a feed: how many tokens it gained, how many of them are past taking and how many
-- were taken, and those that wait in its ring, the oldest first
pub record KeptFeed : Type 0 where
  pub gained : ℕ
  pub passed : ℕ
  pub taken : ℕ
  pub waiting : List Token

-- what outlives a stop
pub record Kept : Type 0 where
  -- the number of the stop, and that of the newest session
  pub stop : ℕ
  pub newest : ℕ
  -- of each group the place of its current buffer in it
  pub positions : List ℕ
  pub feeds : List KeptFeed
  -- the message-ids, rising by their octets
  pub ids : List KeptId

-- what was refused, or is stored, since a moment: 1 or 2, the moment, and the token
abbrev pub fate_octets : Option Token → ℕ → List ℕ
fate_octets None moment = 1 ∷ to_be_bytes w64 moment
fate_octets (Some token) moment = 2 ∷ to_be_bytes w64 moment ++ token_octets token

-- a message-id: its length, its octets, and what became of it
abbrev pub id_octets : KeptId → List ℕ
id_octets one = length one.id ∷ one.id ++ fate_octets one.token one.moment

-- tokens, after their number
abbrev pub tokens_octets : List Token → List ℕ
tokens_octets tokens = to_be_bytes w32 (length tokens) ++ flat_map token_octets tokens

-- a feed: its three counts and the tokens that wait
abbrev pub feed_octets : KeptFeed → List ℕ
feed_octets feed =
    to_be_bytes w64 feed.gained ++ to_be_bytes w64 feed.passed ++ to_be_bytes w64 feed.taken
    ++ tokens_octets feed.waiting

-- positions, after their number
abbrev pub positions_octets : List ℕ → List ℕ
positions_octets positions =
    to_be_bytes w32 (length positions) ++ flat_map (to_be_bytes w32) positions

-- feeds, after their number
abbrev pub feeds_octets : List KeptFeed → List ℕ
feeds_octets feeds = to_be_bytes w32 (length feeds) ++ flat_map feed_octets feeds

-- message-ids, after their number
abbrev pub ids_octets : List KeptId → List ℕ
ids_octets ids = to_be_bytes w64 (length ids) ++ flat_map id_octets ids

-- the groups, the feeds and the message-ids
abbrev pub lists_octets : Kept → List ℕ
lists_octets kept =
    positions_octets kept.positions ++ (feeds_octets kept.feeds ++ ids_octets kept.ids)

-- `CNR1`
abbrev pub mark : List ℕ
mark = 67 ∷ 78 ∷ 82 ∷ 49 ∷ []

-- the text: its mark, the numbers of stop and session, groups, feeds and message-ids, each list
-- after its number, and each number high first
abbrev pub history_octets : Kept → List ℕ
history_octets kept =
    mark ++ to_be_bytes w64 kept.stop ++ to_be_bytes w64 kept.newest ++ lists_octets kept

-- a position has room in the text
abbrev pub PositionFits : ℕ → Type 0
PositionFits position = position < 2 ^ 32

-- each part of a message-id has room in the text
pub record IdFits (one : KeptId) : Type 0 where
  pub id : id_fault one.id ≡ None
  pub token : IfSome one.token IsToken
  pub moment : one.moment < 2 ^ 64

-- each part of a feed has room in the text
pub record FeedFits (feed : KeptFeed) : Type 0 where
  pub gained : feed.gained < 2 ^ 64
  pub passed : feed.passed < 2 ^ 64
  pub taken : feed.taken < 2 ^ 64
  pub waiting : length feed.waiting < 2 ^ 32
  pub tokens : AllByRecursion IsToken feed.waiting

-- each part has room in the text
pub record Fits (kept : Kept) : Type 0 where
  pub stop : kept.stop < 2 ^ 64
  pub newest : kept.newest < 2 ^ 64
  pub groups : length kept.positions < 2 ^ 32
  pub positions : AllByRecursion PositionFits kept.positions
  pub counts : length kept.feeds < 2 ^ 32
  pub feeds : AllByRecursion FeedFits kept.feeds
  pub number : length kept.ids < 2 ^ 64
  pub ids : AllByRecursion IdFits kept.ids

-- what the configuration says: how many buffers there are, of each group how many it has, and of
-- each feed how many tokens its ring holds
pub record Setting : Type 0 where
  pub buffers : ℕ
  pub groups : List ℕ
  pub rings : List ℕ

-- the token names one of so many buffers
abbrev pub IsThere : (buffers : ℕ) → Token → Type 0
IsThere buffers token = token.buffer < buffers

-- the ring of so many tokens holds what it has to: all that isn't past taking, or as many as fit
pub record RingHolds (feed : KeptFeed) (ring : ℕ) : Type 0 where
  pub taken : feed.taken ≤ feed.passed
  pub passed : feed.passed ≤ feed.gained
  pub waiting : length feed.waiting ≡ min ring (feed.gained - feed.passed)

-- what is left of a feed whose ring holds so many tokens, in a store with so many buffers
pub record FeedHolds (buffers : ℕ) (feed : KeptFeed) (ring : ℕ) : Type 0 where
  pub counts : RingHolds feed ring
  pub gained : feed.gained ≤ 2 ^ 62
  pub tokens : AllByRecursion (IsThere buffers) feed.waiting

-- a message-id of a store with so many buffers
pub record IdHolds (buffers : ℕ) (one : KeptId) : Type 0 where
  pub token : IfSome one.token (IsThere buffers)
  pub moment : one.moment ≤ last_moment

-- each message-id comes before the next by its octets
abbrev pub Rises : List KeptId → Type 0
Rises ids = IsStrictlySortedBy (slice_cmp nat_cmp) (map (λ (one : KeptId). one.id) ids)

-- it can be what a relay of this configuration had at its stop
pub record Holds (setting : Setting) (kept : Kept) : Type 0 where
  pub positions : AllZip (λ position m. position < m) kept.positions setting.groups
  pub feeds : AllZip (FeedHolds setting.buffers) kept.feeds setting.rings
  pub ids : AllByRecursion (IdHolds setting.buffers) kept.ids
  pub rises : Rises kept.ids
