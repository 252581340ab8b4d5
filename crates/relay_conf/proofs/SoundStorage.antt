-- Entries that storage.conf says name groups that are there.
use Rattle.std.proofs.lemmas.Bool.Decides.{nat_tests}
use Rattle.std.proofs.Common.{◌≡◌, ℕ, ◌+◌, ◌<◌, List, [], ◌∷◌, ◌++◌, length, map, All, Option, None}
use Rattle.std.proofs.Common.{Some, Result, Ok, Err, get_or, subst, sym, arith}
use Rattle.std.specs.Prelude.{IfOk}
use Rattle.std.specs.Global.{Vec}
use Rattle.std.specs.Option.{IfSome, option_to_list}
use Rattle.std.proofs.lemmas.List.{get_or-map, length-map}
use Rattle.std.proofs.lemmas.List.Elements.{All-append, All-head, All-nil}
use Rattle.news_terms.specs.Pattern.{Marked}
use Rattle.news_terms.specs.StorageClass.{Entry}
use Rattle.news_terms.proofs.ListPlaces.{all_one}
use Rattle.relay_conf.specs.declared.faults.ConfError.{ConfError}
use Rattle.relay_conf.specs.declared.settings.Buffers.{Buffers}
use Rattle.relay_conf.specs.declared.settings.StorageEntry.{StorageEntry}
use Rattle.relay_conf.specs.declared.storage_lines.Place.{Place}
use Rattle.relay_conf.specs.Cycbuff.{Group}
use Rattle.relay_conf.specs.Faults.{first_fault}
use Rattle.relay_conf.specs.Places.{group_view}
use Rattle.relay_conf.specs.Relay.{first_or}
use Rattle.relay_conf.specs.Settings.{buffers_view}
use Rattle.relay_conf.specs.Storage.{entry_view}
use Rattle.relay_conf.specs.StorageLines.{SaidLine, Closes}
use Rattle.relay_conf.specs.StorageFile.{mark_of, group_of, Stand, stand_behind, needed, line_fault}
use Rattle.relay_conf.specs.StorageFile.{early_fault, open_fault, place_behind, named_fault}
use Rattle.relay_conf.specs.StorageFile.{late_fault, entry_of, closed_by, entries_of}
use Rattle.relay_conf.specs.StorageViews.{HasEntries, StorageGives}
use Rattle.relay_conf.proofs.FaultlessLines.{all_option, behind_trials, no_fault_parts}
use Rattle.relay_conf.proofs.StorageReadings.{stand_with, stand_more}

-- the number is that of one of these groups
abbrev IsWithin : List Group → ℕ → Type 0
IsWithin groups n = n < length groups

-- A line without a fault names a group that is there.
names_group : (groups : List Group) (line : SaidLine) → named_fault groups line ≡ None
    → IfSome (group_of groups line) (IsWithin groups)
names_group groups line e = grind (arith, nat_tests)

-- So do the lines of the open entry with it.
numbers_next : (groups : List Group) (before : List SaidLine) (line : SaidLine)
    → named_fault groups line ≡ None → All (IsWithin groups) (stand_behind groups before).numbers
    → All (IsWithin groups) (stand_behind groups (before ++ line ∷ [])).numbers
numbers_next groups before line e all =
    subst (λ (st : Stand). All (IsWithin groups) st.numbers)
    (sym (stand_more groups before line)) (by_mark (mark_of line))
  where
    by_mark : (o : Option Place)
        → All (IsWithin groups) (stand_with o groups (stand_behind groups before) line).numbers
    by_mark None = All-append (IsWithin groups) (stand_behind groups before).numbers
        (option_to_list (group_of groups line)) all
        (all_option (IsWithin groups) (group_of groups line) (names_group groups line e))
    by_mark (Some place) = All-nil (IsWithin groups)

-- the entry goes to one of these groups
abbrev GoesTo : List Group → Entry → Type 0
GoesTo groups entry = IsWithin groups entry.group

-- So does the entry that a line without a fault closes.
closed_goes : (groups : List Group) (stand : Stand) (line : SaidLine)
    → line_fault stand line ≡ None → All (IsWithin groups) stand.numbers
    → All (GoesTo groups) (closed_by stand line)
closed_goes groups stand (Ok Closes) e all =
    all_one (GoesTo groups) (entry_of stand) (goes stand.classes stand.newsgroups stand.numbers e
    all)
  where
    goes : (classes : List ℕ) (newsgroups : List (List Marked)) (numbers : List ℕ)
        → needed classes (needed newsgroups (needed numbers None)) ≡ None
        → All (IsWithin groups) numbers → IsWithin groups (first_or 0 numbers)
    goes (c ∷ cs) (x ∷ xs) (n ∷ more) k within = All-head (IsWithin groups) n more within
    goes cs xs numbers k within = cc
closed_goes groups stand line e all = All-nil (GoesTo groups)

-- So does each that lines without a fault close.
all_go : (groups : List Group) (before said : List SaidLine)
    → first_fault (early_fault groups) before said ≡ None
    → first_fault (late_fault groups) before said ≡ None
    → All (IsWithin groups) (stand_behind groups before).numbers
    → All (GoesTo groups) (entries_of groups before said)
all_go groups before [] early late within = All-nil (GoesTo groups)
all_go groups before (line ∷ more) early late within =
    let all = before ++ line ∷ [] in
    let one = no_fault_parts (length before + 1) (early_fault groups before line)
    (first_fault (early_fault groups) all more) early in
    let two = no_fault_parts (length before + 1) (late_fault groups before line)
    (first_fault (late_fault groups) all more) late in
    All-append (GoesTo groups) (closed_by (stand_behind groups before) line)
    (entries_of groups all more) (closed_goes groups (stand_behind groups before) line one.0 within)
    (all_go groups all more one.1 two.1 (numbers_next groups before line two.0 within))

-- Each entry that lines say goes to one of the groups.
entries_go : (groups : List Group) (lines : List (List ℕ)) (entries : List Entry)
    → HasEntries groups lines entries → All (GoesTo groups) entries
entries_go groups lines entries h =
    let said = h.said in
    let none = behind_trials (first_fault (early_fault groups) [] said)
    (open_fault (place_behind said)) (first_fault (late_fault groups) [] said)
    (entries_of groups [] said) entries h.gives in
    subst (All (GoesTo groups)) none.3
    (all_go groups [] said none.0 none.2 (All-nil (IsWithin groups)))

-- So does each entry that is read.
pub storage_entries_go
    : (buffers : Buffers) (storage_entries : Vec StorageEntry) (lines : List (List ℕ))
    → StorageGives (Ok storage_entries) (buffers_view buffers).groups lines
    → All (λ (storage_entry : StorageEntry). storage_entry.group < length buffers.groups.items)
    storage_entries.items
storage_entries_go buffers storage_entries lines h k d within =
    let groups = (buffers_view buffers).groups in
    let all = entries_go groups lines (map entry_view storage_entries.items) h in
    let there = all k (entry_view d)
    (omega (arith, within, length-map storage_entries.items entry_view)) in
    let same = get_or-map entry_view storage_entries.items k d (entry_view d) within in
    let less : (get_or storage_entries.items k d).group < length groups =
    subst (λ (entry : Entry). entry.group < length groups) same there in
    omega (arith, less, length-map buffers.groups.items group_view)

-- So does each, where entries are read.
pub storage_entries_go_if : (buffers : Buffers) (result : Result (Vec StorageEntry) ConfError)
    (lines : List (List ℕ)) → StorageGives result (buffers_view buffers).groups lines
    → IfOk result (λ storage_entries.
    All (λ (storage_entry : StorageEntry). storage_entry.group < length buffers.groups.items)
    storage_entries.items)
storage_entries_go_if buffers (Ok storage_entries) lines h =
    storage_entries_go buffers storage_entries lines h
storage_entries_go_if buffers (Err error) lines h = tt
