-- How lines that wait are written.
use Rattle.std.specs.Prelude.{◌≡◌, ℕ, zero, suc, ◌==◌, ◌++◌, ◌∷◌, Bool, false, true, List, []}
use Rattle.std.specs.Prelude.{count_by}
use Rattle.std.specs.Str.{byte}
use Rattle.news_log.specs.Growing.{IsFrontBehind}
use Rattle.news_log.specs.Pending.{counted_with}
use Rattle.news_log.specs.declared.news_file.NewsFile as files
use Rattle.news_log.specs.declared.news_lines.NewsLine.{NewsLine}
use Rattle.news_log.specs.declared.news_lines.NewsLine.TheVariants.{Lost, Unopened}
use Rattle.news_log.specs.declared.news_lines.NewsLine.TheVariants.{Unwritten}
use Rattle.news_log.specs.declared.news_lines.NewsLines as lines
use Rattle.news_log.specs.declared.writer.NewsWriter.{NewsWriter}

-- how many lines these octets are: so many end
abbrev pub lines_in : (octets : List ℕ) → ℕ
lines_in octets = count_by (λ octet. octet == byte "\n") octets

-- what is told of so many lines that were lost: nothing of none
abbrev pub told_of_lost : (count : ℕ) → List NewsLine
told_of_lost zero = []
told_of_lost (suc n) = Lost (suc n) ∷ []

-- what is told of octets that couldn't be written or were: a failure, where none is told already;
-- else how many lines were lost before, where any was
abbrev pub told_of_write : (failed is_told : Bool) → (lost : ℕ) → List NewsLine
told_of_write true true lost = []
told_of_write true false lost = Unwritten ∷ []
told_of_write false is_told lost = told_of_lost lost

-- what is told of a look at the file that failed or didn't: a failure, where none is told already
abbrev pub told_of_look : (failed is_unopened : Bool) → List NewsLine
told_of_look true true = []
told_of_look true false = Unopened ∷ []
told_of_look false is_unopened = []

-- how many lines are lost and not told, once octets couldn't be written or were: those of the
-- octets are too, or none is
abbrev pub lost_after : (failed : Bool) → (octets : List ℕ) → (lost : ℕ) → ℕ
lost_after true octets lost = counted_with (lines_in octets) lost
lost_after false octets lost = 0

-- A writer that is new has this file, told nothing and lost nothing.
pub record IsNewWriter {F L : Type 0} (file : F) (told : L) (writer : NewsWriter F L)
    : Type 0 where
  pub file_is : writer.file ≡ file
  pub lines_are : writer.lines ≡ told
  pub lost_is : writer.lost ≡ 0
  pub untold : writer.is_told ≡ false
  pub opened : writer.is_unopened ≡ false

-- so many lines more are lost, and not told; all else stays
abbrev pub Loses : {F L : Type 0} → (count : ℕ) → (old new : NewsWriter F L) → Type 0
Loses count old new = new ≡ record old { lost = counted_with count old.lost }

-- How many lines are lost was told, where any was, and none is any more; all else stays.
pub record TellsLost {F L : Type 0} (l : lines.Ghosts L) (old new : NewsWriter F L)
    : Type 0 where
  pub told : l.told new.lines ≡ l.told old.lines ++ told_of_lost old.lost
  pub lost : new.lost ≡ 0
  pub file : new.file ≡ old.file
  pub is_told : new.is_told ≡ old.is_told
  pub is_unopened : new.is_unopened ≡ old.is_unopened

-- That the file can't be opened was told, where it wasn't; all else stays.
pub record TellsUnopened {F L : Type 0} (l : lines.Ghosts L) (old new : NewsWriter F L)
    : Type 0 where
  pub told : l.told new.lines ≡ l.told old.lines ++ told_of_look true old.is_unopened
  pub is_unopened : new.is_unopened ≡ true
  pub is_told : new.is_told ≡ old.is_told
  pub lost : new.lost ≡ old.lost
  pub file : new.file ≡ old.file

-- The file was looked at, which failed or didn't, and a failure was told where none was; what was
-- written stays.
pub record Looks {F L : Type 0} (f : files.Ghosts F) (l : lines.Ghosts L) (old new : NewsWriter F L)
    : Type 0 where
  pub failed : Bool
  pub told : l.told new.lines ≡ l.told old.lines ++ told_of_look failed old.is_unopened
  pub is_unopened : new.is_unopened ≡ failed
  pub is_told : new.is_told ≡ old.is_told
  pub lost : new.lost ≡ old.lost
  pub written : f.honest old.file → f.written new.file ≡ f.written old.file
  pub honest : f.honest old.file → f.honest new.file

-- That lines can't be written was told, where it wasn't; all else stays.
pub record TellsUnwritten {F L : Type 0} (l : lines.Ghosts L) (old new : NewsWriter F L)
    : Type 0 where
  pub told : l.told new.lines ≡ l.told old.lines ++ told_of_write true old.is_told 0
  pub is_told : new.is_told ≡ true
  pub is_unopened : new.is_unopened ≡ old.is_unopened
  pub lost : new.lost ≡ old.lost
  pub file : new.file ≡ old.file

-- Octets of lines were put behind what the file has: it grew by just these, and how many lines
-- were lost before was told. Or this has failed, and was told where no failure was: then the file
-- grew by a front of them at most, and all these lines count as lost until that is told.
pub record Appends {F L : Type 0} (f : files.Ghosts F) (l : lines.Ghosts L) (octets : List ℕ)
    (old new : NewsWriter F L)
    : Type 0 where
  pub failed : Bool
  pub told : l.told new.lines ≡ l.told old.lines ++ told_of_write failed old.is_told old.lost
  pub is_told : new.is_told ≡ failed
  pub is_unopened : new.is_unopened ≡ old.is_unopened
  pub lost : new.lost ≡ lost_after failed octets old.lost
  pub written : f.honest old.file → failed ≡ false
      → f.written new.file ≡ f.written old.file ++ octets
  pub front : f.honest old.file → failed ≡ true
      → IsFrontBehind (f.written old.file) octets (f.written new.file)
  pub honest : f.honest old.file → f.honest new.file

-- Octets of lines were written: the file was looked at first, and then they were put behind what
-- the file has that stands at its path by then.
pub record Writes {F L : Type 0} (f : files.Ghosts F) (l : lines.Ghosts L) (octets : List ℕ)
    (old new : NewsWriter F L)
    : Type 0 where
  pub looked : NewsWriter F L
  pub looks : Looks f l old looked
  pub appends : Appends f l octets looked new

-- octets of lines are written where there are any, and nothing is opened where there is none;
-- whether there are
abbrev pub WritesSome : {F L : Type 0} → files.Ghosts F → lines.Ghosts L → (octets : List ℕ)
    → (old new : NewsWriter F L) → (wrote : Bool) → Type 0
WritesSome f l [] old new wrote = (wrote ≡ false) × (new ≡ old)
WritesSome f l (octet ∷ octets) old new wrote =
    (wrote ≡ true) × Writes f l (octet ∷ octets) old new

-- A batch was written: the lines that it lacks are counted first, and then its octets are written
-- where it has any.
pub record WritesBatch {F L : Type 0} (f : files.Ghosts F) (l : lines.Ghosts L)
    (octets : List ℕ) (lost : ℕ) (old new : NewsWriter F L) (wrote : Bool)
    : Type 0 where
  pub counted : NewsWriter F L
  pub loses : Loses lost old counted
  pub writes : WritesSome f l octets counted new wrote
