-- What a history says once its journal is folded in (docs/FORMATS.md, Journal file).
use Rattle.std.specs.Prelude.{◌≡◌, ◌==◌, ℕ, List, [], ◌∷◌, ◌++◌, None, Some, nat_lt}
use Rattle.std.specs.Prelude.{if◌then◌else◌, flat_map, MatchBool}
use Rattle.id_history.specs.History.{Kept, KeptId, Setting}
use Rattle.id_history.specs.Lasting.{AreLasting, put_all}
use Rattle.relay_model.specs.Claims.{Claim, Unknown}
use Rattle.relay_log.specs.Journal.{Entry, Refused, Stored, Taken, Journal}

-- what an entry says of message-ids, in a store with so many buffers: that its own was refused or
-- is stored, since its moment; with a token that names no buffer nothing, and of a take nothing
abbrev pub told : (buffers : ℕ) → Entry → List KeptId
told buffers (Refused id moment) = record { id = id; token = None; moment = moment } ∷ []
told buffers (Stored id moment token) =
    if nat_lt token.buffer buffers
    then record { id = id; token = Some token; moment = moment } ∷ [] else []
told buffers (Taken feed gained passed taken) = []

-- what entries say of message-ids, in their order
abbrev pub all_told : (buffers : ℕ) → List Entry → List KeptId
all_told buffers entries = flat_map (told buffers) entries

-- of no message-id anything is known
abbrev pub nothing : List ℕ → Claim
nothing id = Unknown

-- what was said of a message-id last: by the last entry that says something of it, else by the ids
abbrev pub last_said : (buffers : ℕ) → (ids : List KeptId) → List Entry → List ℕ → Claim
last_said buffers ids entries = put_all nothing (ids ++ all_told buffers entries)

-- Entries are folded in: the new history has each message-id of which something was said, once,
-- rising by its octets, with what was said of it last. All else is as it was, also what takes of
-- feeds say.
pub record IsFoldedWith (old : Kept) (entries : List Entry) (setting : Setting) (new : Kept)
    : Type 0 where
  pub ids : AreLasting new.ids (last_said setting.buffers old.ids entries)
  pub others : new ≡ record old { ids = new.ids }

-- a journal is folded in, where it begins after the stop of the history; else that stays as it is
abbrev pub IsFolded : (old : Kept) → Journal → Setting → (new : Kept) → Type 0
IsFolded old journal setting new =
    MatchBool (journal.stop == old.stop) (IsFoldedWith old journal.entries setting new)
    (new ≡ old)
