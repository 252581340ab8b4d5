-- The conditions of a history as tests, which the program makes.
use Rattle.std.specs.Prelude.{ℕ, ◌-◌, ◌^◌, ◌==◌, ◌&&◌, nat_le, nat_lt, Bool, true, false, List, []}
use Rattle.std.specs.Prelude.{◌∷◌, length, min, Option, None, Some}
use Rattle.std.specs.Cmp.Lexicographic.{slice_cmp}
use Rattle.std.specs.Ordering.{nat_cmp, is_lt}
use Rattle.news_terms.specs.Token.{Token}
use Rattle.relay_model.specs.Terms.{last_moment}
use Rattle.id_history.specs.History.{KeptId, KeptFeed, Kept, Setting}

-- each position is one of its group's buffers
abbrev pub are_positions : List ℕ → List ℕ → Bool
are_positions [] [] = true
are_positions [] (m ∷ groups) = false
are_positions (position ∷ positions) [] = false
are_positions (position ∷ positions) (m ∷ groups) =
    nat_lt position m && are_positions positions groups

-- each token names one of so many buffers
abbrev pub are_there : (buffers : ℕ) → List Token → Bool
are_there buffers [] = true
are_there buffers (token ∷ tokens) = nat_lt token.buffer buffers && are_there buffers tokens

-- a feed whose ring holds so many tokens can have come to this
abbrev pub feed_holds : (buffers : ℕ) → KeptFeed → (ring : ℕ) → Bool
feed_holds buffers feed ring =
    nat_le feed.taken feed.passed && nat_le feed.passed feed.gained
    && nat_le feed.gained (2 ^ 62)
    && length feed.waiting == min ring (feed.gained - feed.passed)
    && are_there buffers feed.waiting

-- each feed can have come to this, with its ring
abbrev pub feeds_hold : (buffers : ℕ) → List KeptFeed → List ℕ → Bool
feeds_hold buffers [] [] = true
feeds_hold buffers [] (ring ∷ rings) = false
feeds_hold buffers (feed ∷ feeds) [] = false
feeds_hold buffers (feed ∷ feeds) (ring ∷ rings) =
    feed_holds buffers feed ring && feeds_hold buffers feeds rings

-- the token, if there is one, names one of so many buffers
abbrev pub is_there : (buffers : ℕ) → Option Token → Bool
is_there buffers None = true
is_there buffers (Some token) = nat_lt token.buffer buffers

-- a message-id can have come to this
abbrev pub id_holds : (buffers : ℕ) → KeptId → Bool
id_holds buffers one = nat_le one.moment last_moment && is_there buffers one.token

-- each message-id can have come to this
abbrev pub ids_hold : (buffers : ℕ) → List KeptId → Bool
ids_hold buffers [] = true
ids_hold buffers (one ∷ ids) = id_holds buffers one && ids_hold buffers ids

-- the id comes before the next
abbrev pub is_before : KeptId → List KeptId → Bool
is_before one [] = true
is_before one (next ∷ ids) = is_lt (slice_cmp nat_cmp one.id next.id)

-- each message-id comes before the next
abbrev pub rise : List KeptId → Bool
rise [] = true
rise (one ∷ ids) = is_before one ids && rise ids

-- a relay with this setting can have stopped so
abbrev pub holds : Setting → Kept → Bool
holds setting kept =
    are_positions kept.positions setting.groups
    && feeds_hold setting.buffers kept.feeds setting.rings
    && ids_hold setting.buffers kept.ids && rise kept.ids
