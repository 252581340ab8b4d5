-- Readings of storage.conf, line by line.
use Rattle.std.proofs.Common.{◌≡◌, ℕ, ◌+◌, List, [], ◌∷◌, ◌++◌, length, map, reverse, Option, Some}
use Rattle.std.proofs.Common.{None, Result, Ok, Err, refl, ap, ◌∙◌, sym, subst, append_assoc}
use Rattle.std.proofs.Common.{append-nil, arith}
use Rattle.std.specs.Prelude.{unwrap_or, OnOk}
use Rattle.std.specs.Global.{Vec}
use Rattle.std.specs.Option.{option_to_list}
use Rattle.std.proofs.lemmas.List.{reverse-append}
use Rattle.news_terms.specs.Pattern.{Marked}
use Rattle.news_terms.specs.StorageClass.{Entry}
use Rattle.relay_conf.specs.declared.faults.ConfError.{ConfError}
use Rattle.relay_conf.specs.declared.faults.LineFault.{LineFault}
use Rattle.relay_conf.specs.declared.faults.Refusal.{Refusal}
use Rattle.relay_conf.specs.declared.settings.StorageEntry.{StorageEntry}
use Rattle.relay_conf.specs.declared.storage.StorageDraft.{StorageDraft}
use Rattle.relay_conf.specs.declared.storage_lines.Place.{Place}
use Rattle.relay_conf.specs.Cycbuff.{Group}
use Rattle.relay_conf.specs.Drafts.{StepGives, IsDrawnFrom, late_or}
use Rattle.relay_conf.specs.Faults.{fault_or_later, first_fault, ConfGives}
use Rattle.relay_conf.specs.Storage.{entry_view}
use Rattle.relay_conf.specs.StorageViews.{StorageGives}
use Rattle.relay_conf.specs.StorageLines.{StorageLine, SaidLine, RawSays, storage_line}
use Rattle.relay_conf.specs.StorageFile.{LineSays, Stand, stand_of, stand_behind, mark_of}
use Rattle.relay_conf.specs.StorageFile.{place_behind, up_to_mark, back_to_mark, class_of}
use Rattle.relay_conf.specs.StorageFile.{newsgroups_of, group_of, size_of, exact_of, line_fault}
use Rattle.relay_conf.specs.StorageFile.{early_fault, late_fault, named_fault, closed_by}
use Rattle.relay_conf.specs.StorageFile.{entries_of, storage_said}
use Rattle.relay_conf.specs.StorageDraft.{Reading, draft_view, fault_behind, after_line}
use Rattle.relay_conf.specs.StorageDraft.{StorageStep, IsReadingOf, IsDraftOf, draft_said, no_lines}
use Rattle.relay_conf.proofs.FaultlessLines.{none_yet}
use Rattle.relay_conf.proofs.FirstFaults.{fault_append, filter_one}
use Rattle.relay_conf.proofs.LinesRead.{draft_answers, step_gives}

-- WHAT STANDS

-- Where a line stands behind one line more.
pub place_more : (said : List SaidLine) (line : SaidLine)
    → place_behind (said ++ line ∷ []) ≡ unwrap_or (mark_of line) (place_behind said)
place_more said line = rw reverse-append (grind arith)

-- what stands with one line more
abbrev pub join : List Group → Stand → SaidLine → Stand
join groups st line =
    record {
      classes = st.classes ++ option_to_list (class_of line);
      newsgroups = st.newsgroups ++ option_to_list (newsgroups_of line);
      numbers = st.numbers ++ option_to_list (group_of groups line);
      sizes = st.sizes ++ option_to_list (size_of line);
      exacts = st.exacts ++ option_to_list (exact_of line);
    }

-- what stands after a line, by whether it opens or closes an entry
abbrev pub stand_with : Option Place → List Group → Stand → SaidLine → Stand
stand_with None groups st line = join groups st line
stand_with (Some place) groups st line = stand_of groups []

-- So it stands in the reading, where the line has no fault,
stand_after : (groups : List Group) (number : ℕ) (r : Reading) (line : StorageLine (List Marked))
    → line_fault r.stand (Ok line) ≡ None
    → (after_line groups number r line).stand
    ≡ stand_with (mark_of (Ok line)) groups r.stand (Ok line)
stand_after groups number r line h = grind (arith, append-nil, none_yet)

-- and so of the lines.
pub stand_more : (groups : List Group) (said : List SaidLine) (line : SaidLine)
    → stand_behind groups (said ++ line ∷ [])
    ≡ stand_with (mark_of line) groups (stand_behind groups said) line
stand_more groups said line =
    ap (λ (back : List SaidLine). stand_of groups (reverse (back_to_mark back)))
    (reverse-append said (line ∷ []))
    ∙ by_mark (mark_of line)
  where
    by_mark : (o : Option Place)
        → stand_of groups (reverse (up_to_mark o line (back_to_mark (reverse said))))
        ≡ stand_with o groups (stand_behind groups said) line
    by_mark None =
        ap (stand_of groups) (reverse-append (line ∷ []) (back_to_mark (reverse said)))
        ∙ simp filter_one
    by_mark (Some place) = refl

-- THE READING

-- what doesn't depend on what stands, after a line
pub record GoesOn (groups : List Group) (number : ℕ) (r : Reading)
    (line : StorageLine (List Marked))
    : Type 0 where
  pub place : (after_line groups number r line).place ≡ unwrap_or (mark_of (Ok line)) r.place
  pub entries : (after_line groups number r line).entries ≡ r.entries ++ closed_by r.stand (Ok line)
  pub late : (after_line groups number r line).late ≡ late_or r.late
      (fault_or_later number (named_fault groups (Ok line)) None)

late_none : (late : Option LineFault) → late ≡ late_or late None
late_none late = grind arith

-- It goes on so after each line.
goes_on : (groups : List Group) (number : ℕ) (r : Reading) (line : StorageLine (List Marked))
    → GoesOn groups number r line
goes_on groups number r line = grind (arith, append-nil, late_none)

-- The entries of lines and one more.
entries_more : (groups : List Group) (before said : List SaidLine) (line : SaidLine)
    → entries_of groups before (said ++ line ∷ []) ≡ entries_of groups before said ++ closed_by
    (stand_behind groups (before ++ said)) line
entries_more groups before [] line = simp append-nil
entries_more groups before (s ∷ said) line =
    rw (entries_more groups (before ++ s ∷ []) said line, append_assoc before (s ∷ []) said)
    (sym (append_assoc (closed_by (stand_behind groups before) s)
    (entries_of groups (before ++ s ∷ []) said) _))

-- The reading after a line without fault is that of the lines with it.
reading_more : (groups : List Group) (said : List SaidLine) (r : Reading)
    (line : StorageLine (List Marked)) → fault_behind r (Ok line) ≡ None
    → IsReadingOf groups said r
    → IsReadingOf groups (said ++ Ok line ∷ []) (after_line groups (length said + 1) r line)
reading_more groups said r line none reading =
    let on = goes_on groups (length said + 1) r line in
    record {
      entries = rw (entries_more groups [] said (Ok line), ← reading.entries)
          (on.entries ∙ ap (λ (st : Stand). r.entries ++ closed_by st (Ok line)) reading.stand);
      place = rw (place_more said (Ok line), ← reading.place) on.place;
      stand = stand_after groups (length said + 1) r line none
          ∙ ap (λ (st : Stand). stand_with (mark_of (Ok line)) groups st (Ok line)) reading.stand
          ∙ sym (stand_more groups said (Ok line));
      late = rw (fault_append (late_fault groups) [] said (Ok line ∷ []), ← reading.late) on.late;
    }

-- A step of the reading is one of the draft.
pub storage_step : (groups : List Group) (number : ℕ) (line : List ℕ) (d after : StorageDraft)
    (result : Result (Unit {0}) Refusal)
    → StorageStep groups number (draft_view d) (storage_line d.place line) (draft_view after) result
    → (said : List SaidLine) → length said + 1 ≡ number → IsDraftOf groups said d
    → StepGives LineSays (early_fault groups) (IsDraftOf groups) said line after result
storage_step groups number line d after result step said n of =
    let r = draft_view d in
    step_gives (RawSays (storage_line d.place line)) fault_behind (after_line groups number) r
    LineSays (early_fault groups) (IsDraftOf groups) said line (draft_view after) after (Unit {0})
    result
    (λ one. subst (λ (p : Place). RawSays (storage_line p line) one) of.place)
    (λ one. ap (λ (st : Stand). line_fault st one) (sym of.stand))
    (λ one none same kept. subst (IsReadingOf groups (said ++ Ok one ∷ []))
    (ap (λ (k : ℕ). after_line groups k r one) n ∙ sym same)
    (reading_more groups said r one none of))
    step (elim result as (λ r. OnOk r (Unit {0})) [ Ok done ↦ tt | Err refusal ↦ tt ])

-- WHAT IT SAYS

-- The lines say what their reading says.
reading_says : (groups : List Group) (said : List SaidLine) (r : Reading)
    → first_fault (early_fault groups) [] said ≡ None → IsReadingOf groups said r
    → storage_said groups said ≡ draft_said r
reading_says groups said r none reading =
    rw (none, reading.place, reading.late, reading.entries) refl

-- The draft of no lines.
pub no_draft : (groups : List Group) (d : StorageDraft) → draft_view d ≡ no_lines
    → IsDraftOf groups [] d
no_draft groups d e =
    subst (IsReadingOf groups []) (sym e)
    (record { entries = refl; place = refl; stand = refl; late = refl })

-- What the draft says is what its lines say.
pub storage_gives : (groups : List Group) (lines : List (List ℕ)) (d : StorageDraft)
    (result : Result (Vec StorageEntry) ConfError)
    → IsDrawnFrom LineSays (early_fault groups) (IsDraftOf groups) lines d
    → ConfGives (λ (storage_entries : Vec StorageEntry). map entry_view storage_entries.items)
    result (draft_said (draft_view d))
    → StorageGives result groups lines
storage_gives groups lines d result from gives =
    let view : Vec StorageEntry
    → List Entry = λ storage_entries. map entry_view storage_entries.items in
    draft_answers view LineSays (early_fault groups) (IsDraftOf groups) (storage_said groups) lines
    result d from
    (λ said none of. rw (reading_says groups said (draft_view d) none of) gives)
