-- Whether a history knows of more than the buffers hold (docs/PROTOCOL.md, Clean stop and start).
use Rattle.std.specs.Prelude.{◌||◌, ℕ, Bool, false, List, nat_lt, not, slice_get, sum_by}
use Rattle.std.specs.Prelude.{Option, None, Some}
use Rattle.std.specs.List.{list_any}
use Rattle.cyc_buffer.specs.Filled.{Filled}
use Rattle.id_history.specs.History as texts
use Rattle.id_history.specs.History.{KeptFeed, KeptId}
use Rattle.news_terms.specs.Places.{on_line}
use Rattle.news_terms.specs.Token.{Token}

-- the token's place isn't below the front of its buffer: no article was begun under it
abbrev pub is_past : Token → Option Filled → Bool
is_past token None = not false
is_past token (Some filled) =
    not (nat_lt (on_line filled.blocks token.cycle token.first) filled.front)

abbrev pub is_unbegun : List Filled → Token → Bool
is_unbegun filled token = is_past token (slice_get filled token.buffer)

-- the id is stored under such a token
abbrev pub has_unbegun : List Filled → Option Token → Bool
has_unbegun filled None = false
has_unbegun filled (Some token) = is_unbegun filled token

abbrev pub is_id_ahead : List Filled → KeptId → Bool
is_id_ahead filled one = has_unbegun filled one.token

-- how many articles are stored in all buffers together
abbrev pub all_stored : List Filled → ℕ
all_stored filled = sum_by (λ (one : Filled). one.stored) filled

-- the feed gained more than is stored, or such a token waits for it
abbrev pub is_feed_ahead : List Filled → KeptFeed → Bool
is_feed_ahead filled feed =
    nat_lt (all_stored filled) feed.gained || list_any (is_unbegun filled) feed.waiting

-- the history knows of more than the buffers hold, of an id or of a feed
abbrev pub is_ahead : List Filled → texts.Kept → Bool
is_ahead filled kept =
    list_any (is_id_ahead filled) kept.ids || list_any (is_feed_ahead filled) kept.feeds
