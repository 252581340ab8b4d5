-- How far the lines of storage.conf are read. No public contract cites it.
use Rattle.std.specs.Prelude.{◌≡◌, ℕ, List, [], ◌∷◌, ◌++◌, map, Option, None, Some, Result, Ok}
use Rattle.std.specs.Option.{option_to_list}
use Rattle.news_terms.specs.Pattern.{Marked}
use Rattle.news_terms.specs.StorageClass.{Entry}
use Rattle.relay_conf.specs.declared.faults.Fault.{Fault}
use Rattle.relay_conf.specs.declared.faults.Fault.TheVariants.{UnknownName}
use Rattle.relay_conf.specs.declared.faults.LineFault.{LineFault}
use Rattle.relay_conf.specs.declared.faults.Refusal.{Refusal}
use Rattle.relay_conf.specs.declared.storage_lines.Place.{Place}
use Rattle.relay_conf.specs.declared.storage_lines.Place.TheVariants.{Outside}
use Rattle.relay_conf.specs.declared.storage.OpenEntry.{OpenEntry}
use Rattle.relay_conf.specs.declared.storage.StorageDraft.{StorageDraft}
use Rattle.relay_conf.specs.Cycbuff.{Group}
use Rattle.relay_conf.specs.Drafts.{ReadingGives, late_or}
use Rattle.relay_conf.specs.Faults.{fault_or_later, first_fault, whole_fault, unless_fault}
use Rattle.relay_conf.specs.Storage.{entry_view}
use Rattle.relay_conf.specs.StorageLines.{StorageLine, RawLine, SaidLine, RawSays, Skipped, Opens}
use Rattle.relay_conf.specs.StorageLines.{Closes, Ends, ClassLine, NewsgroupsLine, OptionsLine}
use Rattle.relay_conf.specs.StorageLines.{SizeLine, ExactLine}
use Rattle.relay_conf.specs.StorageFile.{Stand, stand_behind, place_in, place_behind, group_number}
use Rattle.relay_conf.specs.StorageFile.{named_fault, line_fault, late_fault, open_fault, entry_of}
use Rattle.relay_conf.specs.StorageFile.{entries_of}

-- what lines so far say
pub record Reading : Type 0 where
  pub entries : List Entry
  pub place : Place
  pub stand : Stand
  pub late : Option LineFault

-- what stands of an open entry
abbrev pub stand_view : OpenEntry → Stand
stand_view e =
    record {
      classes = option_to_list e.class;
      newsgroups = option_to_list e.newsgroups;
      numbers = option_to_list e.group;
      sizes = option_to_list e.sizes;
      exacts = option_to_list e.exactmatch;
    }

-- the draft as a reading
abbrev pub draft_view : StorageDraft → Reading
draft_view d =
    record {
      entries = map entry_view d.storage_entries.items;
      place = d.place;
      stand = stand_view d.entry;
      late = d.late;
    }

-- nothing stands of an entry
abbrev pub nothing : Stand
nothing = record { classes = []; newsgroups = []; numbers = []; sizes = []; exacts = [] }

-- the reading of no lines
abbrev pub no_lines : Reading
no_lines = record { entries = []; place = Outside; stand = nothing; late = None }

-- a name on the line of this number stands for nothing
abbrev pub unknown_at : ℕ → Option LineFault
unknown_at number = Some (record { line = number; fault = UnknownName })

-- the first fault that is looked for after the last line, with a line more
abbrev pub late_after : List Group → ℕ → Option LineFault → StorageLine (List Marked)
    → Option LineFault
late_after groups number late line =
    late_or late (fault_or_later number (named_fault groups (Ok line)) None)

-- the reading after `method NAME {`
abbrev pub opened : ℕ → Reading → (method : List ℕ) → Reading
opened number r method =
    record r {
      place = place_in method;
      stand = nothing;
      late = late_after [] number r.late (Opens method);
    }

-- the reading after `}` of an entry of cnfs
abbrev pub closed : Reading → Reading
closed r =
    record r { entries = r.entries ++ entry_of r.stand ∷ []; place = Outside; stand = nothing }

-- the reading after `}` of an entry of another method
abbrev pub ended : Reading → Reading
ended r = record r { place = Outside; stand = nothing }

-- the reading after `options: NAME`, over these groups
abbrev pub grouped : List Group → ℕ → Reading → (name : List ℕ) → Reading
grouped groups number r name =
    record r {
      stand = record r.stand { numbers = group_number groups name ∷ [] };
      late = late_after groups number r.late (OptionsLine name);
    }

-- the reading after a line of this number that has no fault, over these groups
abbrev pub after_line : List Group → ℕ → Reading → StorageLine (List Marked) → Reading
after_line groups number r Skipped = r
after_line groups number r (Opens method) = opened number r method
after_line groups number r Closes = closed r
after_line groups number r Ends = ended r
after_line groups number r (ClassLine class) =
    record r { stand = record r.stand { classes = class ∷ [] } }
after_line groups number r (NewsgroupsLine expression) =
    record r { stand = record r.stand { newsgroups = expression ∷ [] } }
after_line groups number r (OptionsLine name) = grouped groups number r name
after_line groups number r (SizeLine sizes) =
    record r { stand = record r.stand { sizes = sizes ∷ [] } }
after_line groups number r (ExactLine exact) =
    record r { stand = record r.stand { exacts = exact ∷ [] } }

-- what is wrong with a line behind a reading
abbrev pub fault_behind : Reading → SaidLine → Option Fault
fault_behind r said = line_fault r.stand said

-- the answer is what a line of this number says behind a reading, over these groups, unless memory
-- ran out
abbrev pub StorageStep : List Group → ℕ → Reading → RawLine → (after : Reading)
    → Result (Unit {0}) Refusal → Type 0
StorageStep groups number r raw after result =
    ReadingGives (RawSays raw) fault_behind (after_line groups number) r after result

-- the same of an expression, on whatever line and over whichever groups
abbrev pub NewsgroupsStep : (text : List ℕ) → Reading → (after : Reading)
    → Result (Unit {0}) Refusal → Type 0
NewsgroupsStep text r after result =
    (groups : List Group) (number : ℕ)
    → StorageStep groups number r (Ok (NewsgroupsLine text)) after result

-- a reading is that of these lines, over these groups
pub record IsReadingOf (groups : List Group) (said : List SaidLine) (r : Reading)
    : Type 0 where
  pub entries : r.entries ≡ entries_of groups [] said
  pub place : r.place ≡ place_behind said
  pub stand : r.stand ≡ stand_behind groups said
  pub late : r.late ≡ first_fault (late_fault groups) [] said

-- a draft is that of these lines, over these groups
abbrev pub IsDraftOf : List Group → (said : List SaidLine) → StorageDraft → Type 0
IsDraftOf groups said d = IsReadingOf groups said (draft_view d)

-- what a reading without early fault says
abbrev pub draft_said : Reading → Result (List Entry) LineFault
draft_said r = unless_fault (whole_fault (open_fault r.place)) (unless_fault r.late (Ok r.entries))
