-- How a journal is begun at its place (docs/FORMATS.md, Journal file).
use Rattle.std.specs.Prelude.{◌≡◌, ℕ, ◌∷◌, ◌++◌, [], Option, None, Some}
use Rattle.relay_folder.specs.declared.history_place.HistoryPlace as places
use Rattle.relay_folder.specs.declared.journal_file.JournalFile as files
use Rattle.relay_log.specs.Journal.{journal_octets}
use Rattle.relay_journal.specs.declared.lines.JournalLine.TheVariants.{Unwritten}
use Rattle.relay_journal.specs.declared.lines.JournalLines as lines
use Rattle.relay_journal.specs.declared.lines.ToldJournal.{ToldJournal}
use Rattle.relay_journal.specs.declared.writing.BegunJournal.{BegunJournal}

-- A file has the text of a journal of this stop without entries, which a power cut leaves too, if
-- the place that it was opened at is honest.
pub record HasFront {P F : Type 0} (p : places.Ghosts P) (f : files.Ghosts F) (stop : ℕ)
    (place : P) (begun : BegunJournal F)
    : Type 0 where
  pub front : begun.front.items ≡ journal_octets stop []
  pub text : p.honest place → f.text begun.file ≡ journal_octets stop []
  pub lasts : p.honest place → f.lasting begun.file ≡ journal_octets stop [] ∷ []
  pub honest : p.honest place → f.honest begun.file

-- A journal of this stop was begun, and nothing told; or it couldn't be, and that was told.
abbrev pub IsBegun : {P F L : Type 0} → places.Ghosts P → files.Ghosts F → lines.Ghosts L
    → (stop : ℕ) → (old new : ToldJournal P L) → Option (BegunJournal F) → Type 0
IsBegun p f l stop old new None = l.told new.lines ≡ l.told old.lines ++ Unwritten ∷ []
IsBegun p f l stop old new (Some begun) =
    (l.told new.lines ≡ l.told old.lines) × HasFront p f stop old.place begun
