-- The last history that a repair goes by: with its journal folded in (docs/FORMATS.md, Journal
-- file).
use Rattle.std.specs.Prelude.{◌≡◌, ℕ, ◌∷◌, List, [], Option, None, Some}
use Rattle.std.specs.Prelude.{length, replicate}
use Rattle.id_history.specs.History.{Kept, KeptFeed, history_octets}
use Rattle.relay_conf.specs.declared.settings.Config.{Config}
use Rattle.relay_core.specs.Desks.{setting_of}
use Rattle.relay_log.specs.FoldedText.{IsTextWith}

-- a feed that has gained nothing
abbrev pub empty_feed : KeptFeed
empty_feed = record { gained = 0; passed = 0; taken = 0; waiting = [] }

-- the history of a relay that was never stopped, as one of stop 0: no session, each group at its
-- first buffer, no token, and no message-id
abbrev pub first_kept : Config → Kept
first_kept config =
    record {
      stop = 0;
      newest = 0;
      positions = replicate (length config.buffers.groups.items) 0;
      feeds = replicate (length config.relay.feeds.items) empty_feed;
      ids = [];
    }

-- the text of the last history that a journal is folded in to: that which is kept, and where that
-- is empty that of a relay that was never stopped
abbrev pub last_text : Config → List ℕ → List ℕ
last_text config [] = history_octets (first_kept config)
last_text config (octet ∷ octets) = octet ∷ octets

-- A repair goes by this text of the last history: by the one that is kept, with the journal that
-- was read folded in; where none was read, by that one as it is.
abbrev pub IsLastWith : Config → (kept : List ℕ) → (journal : Option (List ℕ)) → (last : List ℕ)
    → Type 0
IsLastWith config kept None last = last ≡ kept
IsLastWith config kept (Some journal) last =
    IsTextWith (setting_of config) (last_text config kept) journal last
