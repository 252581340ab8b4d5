-- What a repair forgets of what its journal says (docs/PROTOCOL.md, Crashes: what `serve` does).
use Rattle.std.specs.Prelude.{◌≡◌, ℕ, ◌&&◌, not, Bool, List, Option, is_some}
use Rattle.std.specs.List.{filter, list_any}
use Rattle.std.specs.Str.{bytes_eq}
use Rattle.id_history.specs.History.{Kept, KeptId, history_octets}
use Rattle.news_terms.specs.HeadBlocks.{HeadBlock}
use Rattle.relay_conf.specs.declared.settings.Config.{Config}
use Rattle.relay_core.specs.Desks.{Reads}
use Rattle.relay_repair.specs.Telling.{IsLast}
use Rattle.relay_startup.specs.Recovered.{is_found, is_overwritten, last_ids}
use Rattle.relay_startup.specs.Unstopped.{kept_text}

-- An id is said to be stored since the last history: it has an article that the history that is
-- kept doesn't have under it, and which was not overwritten, since no front has passed it.
abbrev pub is_said_since : (heads : List HeadBlock) → (kept : List KeptId) → KeptId → Bool
is_said_since heads kept one =
    is_some one.token && not (is_overwritten heads one.token) && not (is_found kept one)

-- A crash has cost an id its article, of which the journal alone has told: the new history lists it
-- without one, and the last one, with the journal folded in, says that it is stored since.
abbrev pub is_unsaved : (heads : List HeadBlock) → (last kept : List KeptId) → KeptId → Bool
is_unsaved heads last kept one =
    not (is_some one.token)
    && list_any (λ (other : KeptId). bytes_eq other.id one.id && is_said_since heads kept other)
    last

-- the others of these ids
abbrev pub left_of : (heads : List HeadBlock) → (last kept ids : List KeptId) → List KeptId
left_of heads last kept ids =
    filter (λ (one : KeptId). not (is_unsaved heads last kept one)) ids

-- these are the ids of the history that a text is, none where it is empty
pub record AreIdsOf (config : Config) (text : List ℕ) (ids : List KeptId) : Type 0 where
  pub kept : Option Kept
  pub is_last : IsLast config (kept_text text) kept
  pub are : ids ≡ last_ids kept

-- a history without such ids
abbrev pub without_unsaved : (heads : List HeadBlock) → (last kept : List KeptId) → Kept → Kept
without_unsaved heads last kept history =
    record history { ids = left_of heads last kept history.ids }

-- The text is that of the history that a repair has made, without the ids that its crash has cost
-- their articles, of which the journal alone has told, by the history that is kept and with the
-- journal folded in, and by the heads that the repair wrote.
pub record IsWithoutUnsaved (config : Config) (kept last : List ℕ) (heads : List HeadBlock)
    (found left : List ℕ)
    : Type 0 where
  pub history : Kept
  pub reads : Reads config found history
  pub kept_ids : List KeptId
  pub are_kept : AreIdsOf config kept kept_ids
  pub last_ids : List KeptId
  pub are_last : AreIdsOf config last last_ids
  pub is : left ≡ history_octets (without_unsaved heads last_ids kept_ids history)
