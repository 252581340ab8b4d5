-- What is told of what a repair has found (docs/OPERATING.md, What a stop keeps, and what a kill
-- loses).
use Rattle.std.specs.Prelude.{◌≡◌, ℕ, ◌+◌, ◌==◌, ◌&&◌, not, nat_lt, Bool, false, List, Option}
use Rattle.std.specs.Prelude.{None, Some, ◌<◌, [], count_by, get_or, slice_get}
use Rattle.std.specs.List.{list_any}
use Rattle.std.specs.Str.{bytes_eq}
use Rattle.block_shelf.specs.Starting.{buffer_over}
use Rattle.cyc_block.specs.Heads.{head_view}
use Rattle.cyc_block.specs.declared.head.HeadNumbers.{HeadNumbers}
use Rattle.cyc_block.specs.declared.store.BlockStore.{Ghosts}
use Rattle.cyc_buffer.specs.Filled.{filled_by}
use Rattle.cyc_buffer.specs.Stopped.{Says}
use Rattle.id_history.specs.History.{Kept, KeptId}
use Rattle.news_terms.specs.HeadBlocks.{HeadBlock}
use Rattle.news_terms.specs.Places.{on_line}
use Rattle.news_terms.specs.Token.{Token, same_token}
use Rattle.relay_conf.specs.declared.settings.Config.{Config}
use Rattle.relay_core.specs.Desks.{Reads}
use Rattle.relay_repair.specs.Telling.{IsLast}
use Rattle.relay_startup.specs.Unstopped.{kept_text}
use Rattle.relay_startup.specs.declared.recovered.Counted.{Counted}

-- a token is of an article in the buffer of this number
abbrev pub is_of_buffer : (buffer : ℕ) → Option Token → Bool
is_of_buffer buffer None = false
is_of_buffer buffer (Some token) = token.buffer == buffer

-- how many of these ids have an article in the buffer of this number
abbrev pub count_in : (buffer : ℕ) → List KeptId → ℕ
count_in buffer ids = count_by (λ (one : KeptId). is_of_buffer buffer one.token) ids

-- two tokens are the same; without one nothing is
abbrev pub is_same_token : Option Token → Option Token → Bool
is_same_token None b = false
is_same_token (Some a) None = false
is_same_token (Some a) (Some b) = same_token a b

-- an id is found again with its article: it stands among these, under the same token
abbrev pub is_found : (found : List KeptId) → KeptId → Bool
is_found found one =
    list_any (λ (other : KeptId). bytes_eq other.id one.id && is_same_token other.token one.token)
    found

-- the front of the buffer whose head says this has passed what lies under the token
-- (docs/PROTOCOL.md, Fronts and liveness)
abbrev pub has_passed : HeadBlock → Token → Bool
has_passed head token =
    nat_lt (on_line head.blocks token.cycle token.first + head.blocks) (filled_by head).front

-- so has this one, where there is one
abbrev pub passed_by : Option HeadBlock → Token → Bool
passed_by None token = false
passed_by (Some head) token = has_passed head token

-- the article under a token was overwritten: the front of its buffer has passed it
abbrev pub is_overwritten : (heads : List HeadBlock) → Option Token → Bool
is_overwritten heads None = false
is_overwritten heads (Some token) = passed_by (slice_get heads token.buffer) token

-- The crash has cost an id of the last stop its article: it isn't found, and the front that is
-- found hasn't passed its place, so that it wasn't overwritten.
abbrev pub is_lost : (heads : List HeadBlock) → (found : List KeptId) → KeptId → Bool
is_lost heads found one = not (is_found found one) && not (is_overwritten heads one.token)

-- how many articles of the last stop's ids were lost in the buffer of this number
abbrev pub lost_in : (heads : List HeadBlock) → (found : List KeptId) → (buffer : ℕ)
    → (last : List KeptId) → ℕ
lost_in heads found buffer last =
    count_by (λ (one : KeptId). is_of_buffer buffer one.token && is_lost heads found one) last

-- the ids that the history of the last stop lists, none where no history was kept
abbrev pub last_ids : Option Kept → List KeptId
last_ids None = []
last_ids (Some kept) = kept.ids

-- so many articles were lost in the buffer of each number since the history that a text is
pub record AreLostSince (config : Config) (text : List ℕ) (heads : List HeadBlock)
    (found : List KeptId) (counts : List ℕ)
    : Type 0 where
  pub kept : Option Kept
  pub is_last : IsLast config (kept_text text) kept
  pub each : (b : ℕ) → b < 256 → get_or counts b 0 ≡ lost_in heads found b (last_ids kept)

-- What is told of a repair: of the buffer of each number so many articles are found, by the ids of
-- the history that was written, and so many were lost since the last one.
pub record AreCountsOf (config : Config) (last text : List ℕ) (heads : List HeadBlock)
    (counted : Counted)
    : Type 0 where
  pub kept : Kept
  pub reads : Reads config text kept
  pub found : (b : ℕ) → b < 256 → get_or counted.found b 0 ≡ count_in b kept.ids
  pub lost : AreLostSince config last heads kept.ids counted.lost

-- the head of the buffer of this number is read of its store
abbrev pub IsHeadIn : {S : Type 0} → Ghosts S → (number : ℕ) → S → HeadNumbers → Type 0
IsHeadIn g number store head =
    g.honest store → Says (g.heads store) (buffer_over g number store) (head_view head)
