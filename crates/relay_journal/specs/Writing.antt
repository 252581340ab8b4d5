-- How a journal is written while its relay is served (docs/FORMATS.md, Journal file).
use Rattle.std.specs.Prelude.{◌≡◌, ℕ, ◌+◌, ◌-◌, ◌^◌, min, ◌∷◌, ◌++◌, ◌&&◌, ◌||◌, Bool, false, true}
use Rattle.std.specs.Prelude.{not, List, [], MatchBool, length, nat_le, nat_lt}
use Rattle.std.specs.Prelude.{Option, None, Some, zero, suc}
use Rattle.std.specs.List.{flat_map}
use Rattle.relay_folder.specs.Behind.{IsBehind}
use Rattle.relay_folder.specs.declared.journal_file.JournalFile as files
use Rattle.relay_log.specs.Journal.{Entry, entry_octets, journal_octets}
use Rattle.relay_journal.specs.declared.lines.JournalLine.{JournalLine}
use Rattle.relay_journal.specs.declared.lines.JournalLine.TheVariants.{LeftOut, Unflushed}
use Rattle.relay_journal.specs.declared.lines.JournalLine.TheVariants.{Unwritten}
use Rattle.relay_journal.specs.declared.lines.JournalLines as lines
use Rattle.relay_journal.specs.declared.writing.BegunJournal.{BegunJournal}
use Rattle.relay_journal.specs.declared.writing.JournalWriter.{JournalWriter}

-- what is told of a call that has failed or not: a failure, where none is told already
abbrev pub told_of_write : (failed is_told : Bool) → List JournalLine
told_of_write true false = Unwritten ∷ []
told_of_write true true = []
told_of_write false is_told = []

-- entries can be put behind the journal: it is begun, all that was put behind it stands there, and
-- that is less than 256 MB
abbrev pub is_ready : {F L : Type 0} → JournalWriter F L → Bool
is_ready writer = writer.is_begun && nat_lt writer.written 268435456

-- A writer that is new has the file and the text of a journal that was begun, without entries, and
-- told nothing.
pub record IsNewWriter {F L : Type 0} (begun : BegunJournal F) (told : L)
    (writer : JournalWriter F L)
    : Type 0 where
  pub file : writer.file ≡ begun.file
  pub front : writer.front ≡ begun.front
  pub lines : writer.lines ≡ told
  pub written : writer.written ≡ 0
  pub begun_is : writer.is_begun ≡ true
  pub untold : writer.is_told ≡ false

-- A call has failed: no journal counts as begun, and that is told where no failure is.
pub record Fails {F L : Type 0} (l : lines.Ghosts L) (old new : JournalWriter F L) : Type 0 where
  pub told : l.told new.lines ≡ l.told old.lines ++ told_of_write true old.is_told
  pub is_told : new.is_told ≡ true
  pub begun : new.is_begun ≡ false
  pub file : new.file ≡ old.file
  pub front : new.front ≡ old.front
  pub written : new.written ≡ old.written

-- A new journal was begun in the file: its text is that of one without entries. Or this has failed,
-- and was told where no failure was.
pub record Begins {F L : Type 0} (f : files.Ghosts F) (l : lines.Ghosts L)
    (old new : JournalWriter F L)
    : Type 0 where
  pub failed : Bool
  pub begun : new.is_begun ≡ not failed
  pub told : l.told new.lines ≡ l.told old.lines ++ told_of_write failed old.is_told
  pub is_told : new.is_told ≡ (failed || old.is_told)
  pub text : f.honest old.file → failed ≡ false → f.text new.file ≡ old.front.items
  pub written : failed ≡ false → new.written ≡ 0
  pub honest : f.honest old.file → f.honest new.file
  pub front : new.front ≡ old.front

-- a new journal was begun, where nothing could be put behind the one that was there
abbrev pub MakesReady : {F L : Type 0} → files.Ghosts F → lines.Ghosts L
    → (old new : JournalWriter F L) → Type 0
MakesReady f l old new = MatchBool (is_ready old) (new ≡ old) (Begins f l old new)

-- These octets were put behind a journal that was begun: where that was the text of some entries of
-- a stop, and the octets are those of others, it is the text of the ones and then the others, each
-- once. Or this has failed, and was told where no failure was: then any octets may stand behind
-- what was there, and the journal has to be begun anew.
pub record Puts {F L : Type 0} (f : files.Ghosts F) (l : lines.Ghosts L) (octets : List ℕ)
    (old new : JournalWriter F L)
    : Type 0 where
  pub failed : Bool
  pub begun : new.is_begun ≡ not failed
  pub told : l.told new.lines ≡ l.told old.lines ++ told_of_write failed old.is_told
  pub is_told : new.is_told ≡ failed
  pub text : f.honest old.file → failed ≡ false → (stop : ℕ) → (entries more : List Entry)
      → f.text old.file ≡ journal_octets stop entries
      → octets ≡ flat_map entry_octets more
      → f.text new.file ≡ journal_octets stop (entries ++ more)
  pub behind : f.honest old.file → failed ≡ true → IsBehind (f.text old.file) (f.text new.file)
  pub written : failed ≡ false
      → new.written ≡ min (old.written + length octets) (2 ^ 64 - 1)
  pub honest : f.honest old.file → f.honest new.file
  pub front : new.front ≡ old.front

-- Octets are written: behind the journal that is there, and where that is full, or a call has
-- failed since it was begun, behind a new one, which is begun first; where that fails nothing is
-- put anywhere.
pub record Writes {F L : Type 0} (f : files.Ghosts F) (l : lines.Ghosts L) (octets : List ℕ)
    (old new : JournalWriter F L)
    : Type 0 where
  pub begun : JournalWriter F L
  pub ready : MakesReady f l old begun
  pub puts : MatchBool begun.is_begun (Puts f l octets begun new) (new ≡ begun)

-- it is time for a flush: so many seconds after the last one, where any is asked for
abbrev pub is_due : (flushed : ℕ) → (every : Option ℕ) → (now : ℕ) → Bool
is_due flushed None now = false
is_due flushed (Some every) now = nat_le (flushed + every) now

-- what is told of a flush that has failed or not
abbrev pub told_of_flush : (failed : Bool) → List JournalLine
told_of_flush true = Unflushed ∷ []
told_of_flush false = []

-- The device has all that is in the file, so that a power cut leaves just that; or this has failed,
-- and was told. All else stays.
pub record Flushes {F L : Type 0} (f : files.Ghosts F) (l : lines.Ghosts L)
    (old new : JournalWriter F L)
    : Type 0 where
  pub failed : Bool
  pub told : l.told new.lines ≡ l.told old.lines ++ told_of_flush failed
  pub lasts : f.honest old.file → failed ≡ false → f.lasting new.file ≡ f.text old.file ∷ []
  pub text : f.honest old.file → f.text new.file ≡ f.text old.file
  pub honest : f.honest old.file → f.honest new.file
  pub front : new.front ≡ old.front
  pub written : new.written ≡ old.written
  pub begun : new.is_begun ≡ old.is_begun
  pub is_told : new.is_told ≡ old.is_told

-- what is told of so many entries that were left out: nothing of none
abbrev pub told_of_left : (count : ℕ) → List JournalLine
told_of_left zero = []
told_of_left (suc n) = LeftOut (suc n) ∷ []

-- That so many entries were left out is told, where any was; all else stays.
pub record TellsLeft {F L : Type 0} (l : lines.Ghosts L) (count : ℕ) (old new : JournalWriter F L)
    : Type 0 where
  pub told : l.told new.lines ≡ l.told old.lines ++ told_of_left count
  pub file : new.file ≡ old.file
  pub front : new.front ≡ old.front
  pub written : new.written ≡ old.written
  pub begun : new.is_begun ≡ old.is_begun
  pub is_told : new.is_told ≡ old.is_told

-- octets are written where there are any; whether there are
abbrev pub WritesSome : {F L : Type 0} → files.Ghosts F → lines.Ghosts L → (octets : List ℕ)
    → (old new : JournalWriter F L) → (wrote : Bool) → Type 0
WritesSome f l [] old new wrote = (wrote ≡ false) × (new ≡ old)
WritesSome f l (octet ∷ octets) old new wrote =
    (wrote ≡ true) × Writes f l (octet ∷ octets) old new

-- A batch was written: its octets where it has any, and then how many entries it lacks was told.
pub record WritesBatch {F L : Type 0} (f : files.Ghosts F) (l : lines.Ghosts L)
    (octets : List ℕ) (left_out : ℕ) (old new : JournalWriter F L) (wrote : Bool)
    : Type 0 where
  pub written : JournalWriter F L
  pub writes : WritesSome f l octets old written wrote
  pub tells : TellsLeft l left_out written new
