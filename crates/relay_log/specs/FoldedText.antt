-- The text of a history with the text of its journal folded in (docs/FORMATS.md, Journal file).
use Rattle.std.specs.Prelude.{◌≡◌, ℕ, List, Option, None, Some}
use Rattle.id_history.specs.History.{Fits, Holds, Kept, Setting, history_octets}
use Rattle.relay_log.specs.Beginning.{IsLongest}
use Rattle.relay_log.specs.Folding.{IsFolded}
use Rattle.relay_log.specs.Journal.{HasFront, Journal}

-- the text is that of this history, which a relay of this setting can have stopped with
pub record IsTextOf (setting : Setting) (kept : Kept) (text : List ℕ) : Type 0 where
  pub fits : Fits kept
  pub holds : Holds setting kept
  pub octets : text ≡ history_octets kept

-- the new history is the old one with the journal folded in that a text is the longest beginning
-- of, and the old one where the text is no journal
abbrev pub IsFoldedBy : (old : Kept) → (text : List ℕ) → Setting → (new : Kept) → Option Journal
    → Type 0
IsFoldedBy old text setting new None = (¬ HasFront text) × (new ≡ old)
IsFoldedBy old text setting new (Some journal) =
    IsLongest text journal × IsFolded old journal setting new

-- the text is that of the history of the old text, with the journal folded in
pub record IsTextWith (setting : Setting) (old journal text : List ℕ) : Type 0 where
  pub before : Kept
  pub was : IsTextOf setting before old
  pub after : Kept
  pub is : IsTextOf setting after text
  pub found : Option Journal
  pub folded : IsFoldedBy before journal setting after found
