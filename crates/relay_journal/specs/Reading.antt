-- A journal is read at its place.
use Rattle.std.specs.Prelude.{◌≡◌, ℕ, ◌∷◌, ◌++◌, Bool, false, true, List, [], Option, None}
use Rattle.relay_folder.specs.declared.history_place.HistoryPlace as places
use Rattle.relay_journal.specs.declared.lines.JournalLine.{JournalLine}
use Rattle.relay_journal.specs.declared.lines.JournalLine.TheVariants.{Unread}
use Rattle.relay_journal.specs.declared.lines.JournalLines as lines
use Rattle.relay_journal.specs.declared.lines.ToldJournal.{ToldJournal}

-- what is told where a read has failed or not
abbrev pub told_of_read : (failed : Bool) → List JournalLine
told_of_read true = Unread ∷ []
told_of_read false = []

-- what counts as read of what is kept: nothing where that has failed
abbrev pub read_of : (failed : Bool) → (kept : Option (List ℕ)) → Option (List ℕ)
read_of true kept = None
read_of false kept = kept

-- The journal was read: what is kept, or none where that has failed, which was told.
pub record IsJournalRead {P L : Type 0} (p : places.Ghosts P) (l : lines.Ghosts L)
    (read : Option (List ℕ)) (old new : ToldJournal P L)
    : Type 0 where
  pub failed : Bool
  pub told : l.told new.lines ≡ l.told old.lines ++ told_of_read failed
  pub is : p.honest old.place → read ≡ read_of failed (p.kept old.place)
