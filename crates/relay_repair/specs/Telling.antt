-- What the history of a relay's last stop tells a repair, and what is written of what is found
-- (docs/PROTOCOL.md, Crashes).
use Rattle.std.specs.Prelude.{◌≡◌, ℕ, min, List, [], map, Option, None, Some, IsPermutation}
use Rattle.std.specs.Borrow.{Bor}
use Rattle.article_verdict.specs.Config.{terms_of}
use Rattle.block_shelf.specs.Stopping.{ArePositions}
use Rattle.feed_queue.specs.Feeds.{ring_size}
use Rattle.found_again.specs.Claiming.{claimed_by_last}
use Rattle.found_again.specs.Texts.{IsOf}
use Rattle.found_again.specs.declared.text.FoundText.{FoundText}
use Rattle.id_history.specs.History as texts
use Rattle.id_history.specs.Views.{history_view}
use Rattle.id_history.specs.declared.fault.HistoryError.{HistoryError}
use Rattle.id_history.specs.declared.fault.HistoryError.TheVariants as errors
use Rattle.id_history.specs.declared.kept.History.{History}
use Rattle.relay_conf.specs.declared.settings.Config.{Config}
use Rattle.relay_core.specs.Desks.{Reads}
use Rattle.relay_core.specs.Stopping.{Tells, next_stop}
use Rattle.relay_model.specs.Crash.{Found, Listed, state_again}
use Rattle.relay_model.specs.Terms.{last_moment}
use Rattle.buffer_repair.specs.declared.found_set.FoundBufferSet.{FoundBufferSet}
use Rattle.cyc_block.specs.declared.store.BlockStore.{Ghosts}
use Rattle.found_texts.specs.Reading.{ReadsAll}
use Rattle.relay_remains.specs.Positions.{ArePositionsAgain}

-- the octets of a text that is handed in, if one is
abbrev pub octets_in : Option (Bor (List ℕ)) → Option (List ℕ)
octets_in None = None
octets_in (Some text) = Some text.now

-- a text is that of this history of a relay of this configuration; without one there was none
abbrev pub IsLast : Config → (text : Option (List ℕ)) → Option texts.Kept → Type 0
IsLast config None kept = kept ≡ None
IsLast config (Some text) kept = (one : texts.Kept) × (kept ≡ Some one) × Reads config text one

-- the same of the program's value
abbrev pub last_view : Option History → Option texts.Kept
last_view None = None
last_view (Some old) = Some (history_view old)

-- the same of one that is lent
abbrev pub last_lent : Option (Bor History) → Option texts.Kept
last_lent None = None
last_lent (Some old) = Some (history_view old.now)

-- the text is that of no history of this configuration
abbrev pub IsNoHistory : Config → (text : Option (List ℕ)) → Type 0
IsNoHistory config None = ⊥
IsNoHistory config (Some text) = (kept : texts.Kept) → Reads config text kept → ⊥

-- why the history isn't read: memory was refused, or it is none
abbrev pub IsUntold : Config → (text : Option (List ℕ)) → HistoryError → Type 0
IsUntold config text errors.Memory = Unit {0}
IsUntold config text errors.BadHistory = IsNoHistory config text

-- the number of the last stop: 0 where there was none
abbrev pub last_stop : Option texts.Kept → ℕ
last_stop None = 0
last_stop (Some kept) = kept.stop

-- a message-id that a history lists, and since when; its token isn't believed
abbrev pub listed_of : texts.KeptId → Listed
listed_of one = record { id = one.id; moment = one.moment }

-- the message-ids that the last history lists
abbrev pub last_listed : Option texts.Kept → List Listed
last_listed None = []
last_listed (Some kept) = map listed_of kept.ids

-- the numbers of the stop that is written, the next after the last one
abbrev pub stop_again : Option (Bor History) → ℕ
stop_again old = next_stop (last_stop (last_lent old))

-- The text is that of the history of what is found: the texts of all buffers in one order, each
-- message-id had by the last of its texts.
pub record TellsTexts (config : Config) (found_texts : List FoundText) (old : Option (Bor History))
    (now : ℕ) (positions : List ℕ) (text : List ℕ)
    : Type 0 where
  pub ordered : List FoundText
  pub permuted : IsPermutation found_texts ordered
  pub tells : (found : Found)
      → IsOf (terms_of config) (claimed_by_last ordered) old
      (map ring_size config.relay.feeds.items) (min now last_moment) found
      → ArePositions (terms_of config).groups found.begun positions
      → Tells (terms_of config) (stop_again old) (state_again (terms_of config) found) text

-- The text is that of the history of what is found in these buffers: of the texts that are read as
-- articles, with the groups at the positions at which they are found.
pub record TellsFound {S : Type 0} {g : Ghosts S} (config : Config) (old : Option (Bor History))
    (now : ℕ) (before after : FoundBufferSet S g) (text : List ℕ)
    : Type 0 where
  pub positions : List ℕ
  pub are_positions : ArePositionsAgain (terms_of config).groups old before positions
  pub found_texts : List FoundText
  pub reads : ReadsAll config.relay before found_texts after
  pub tells : TellsTexts config found_texts old now positions text
