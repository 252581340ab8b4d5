-- Comments and empty lines of storage.conf.
use Rattle.std.proofs.Common.{◌≡◌, ℕ, true, List, [], ◌∷◌, ◌++◌, Ok, refl, ap, ◌∙◌, append-nil}
use Rattle.std.proofs.Common.{arith}
use Rattle.std.specs.Prelude.{◌↔◌, unwrap_or}
use Rattle.std.proofs.lemmas.Bool.{eqb-true}
use Rattle.news_terms.specs.Article.{without_outer_white}
use Rattle.news_terms.specs.StorageClass.{Entry}
use Rattle.line_words.specs.Comments.{is_skipped}
use Rattle.relay_conf.specs.declared.storage_lines.Place.{Place}
use Rattle.relay_conf.specs.Cycbuff.{Group}
use Rattle.relay_conf.specs.StorageLines.{SaidLine, Skipped, other_line, storage_line}
use Rattle.relay_conf.specs.StorageFile.{LineSays, Stand, stand_behind, mark_of, place_behind}
use Rattle.relay_conf.specs.StorageFile.{line_fault, early_fault, late_fault, open_fault, closed_by}
use Rattle.relay_conf.specs.StorageFile.{entries_of}
use Rattle.relay_conf.specs.StorageViews.{HasEntries}
use Rattle.relay_conf.proofs.OneStorage.{line_one, placed_one}
use Rattle.relay_conf.proofs.SkippedLines.{IsIdle, same_behind, settings_without, stands_without}
use Rattle.relay_conf.proofs.StorageReadings.{place_more, stand_more, stand_with}

-- A line stands behind lines without one that is skipped where it does with it.
place_same : (before after : List SaidLine)
    → place_behind (before ++ Ok Skipped ∷ after) ≡ place_behind (before ++ after)
place_same =
    stands_without place_behind (λ place line. unwrap_or (mark_of line) place) place_more
    (Ok Skipped) (λ place. refl)

-- The same stands of an entry without a line that is skipped.
stand_same : (groups : List Group) (before after : List SaidLine)
    → stand_behind groups (before ++ Ok Skipped ∷ after) ≡ stand_behind groups (before ++ after)
stand_same groups =
    stands_without (stand_behind groups) (λ stand line. stand_with (mark_of line) groups stand line)
    (stand_more groups) (Ok Skipped) (λ stand. simp append-nil)

-- The same entries are closed behind lines with one that is skipped among them.
entries_behind : (groups : List Group) (passed more said : List SaidLine)
    → entries_of groups (passed ++ Ok Skipped ∷ more) said
    ≡ entries_of groups (passed ++ more) said
entries_behind groups passed more [] = refl
entries_behind groups passed more (line ∷ said) =
    rw (stand_same groups passed more) (ap (λ (entries : List Entry).
    closed_by (stand_behind groups (passed ++ more)) line ++ entries)
    (same_behind (λ (before : List SaidLine). entries_of groups before said) (Ok Skipped) passed
    more line (entries_behind groups passed (more ++ line ∷ []) said)))

-- The same entries are closed without a line that is skipped.
entries_same : (groups : List Group) (passed before after : List SaidLine)
    → entries_of groups passed (before ++ Ok Skipped ∷ after) ≡ entries_of groups passed
    (before ++ after)
entries_same groups passed [] after =
    entries_behind groups passed [] after
    ∙ ap (λ (before : List SaidLine). entries_of groups before after) (append-nil passed)
entries_same groups passed (line ∷ before) after =
    ap (λ (entries : List Entry). closed_by (stand_behind groups passed) line ++ entries)
    (entries_same groups (passed ++ line ∷ []) before after)

-- A line that is skipped changes nothing.
storage_idle : (groups : List Group) → IsIdle (early_fault groups)
    (λ said. open_fault (place_behind said)) (λ said. groups) late_fault (entries_of groups [])
    (Ok Skipped)
storage_idle groups = record {
  none = λ before. refl;
  none_late = λ known before. refl;
  early_same = λ before after line. ap (λ (stand : Stand). line_fault stand line)
      (stand_same groups before after);
  whole_same = λ before after. ap open_fault (place_same before after);
  key_same = λ before after. refl;
  late_same = λ known before after line. refl;
  made_same = entries_same groups [];
}

-- A comment or an empty line ends no entry of another method.
other_skipped : (trimmed : List ℕ) → is_skipped trimmed ≡ true
    → other_line {E = List ℕ} trimmed ≡ Skipped
other_skipped [] e = refl
other_skipped (first ∷ rest) e =
    let same : first ≡ 35 = eqb-true first 35 e in
    rw same refl

-- A comment or an empty line is skipped wherever it stands.
storage_skipped : (line : List ℕ) (place : Place) → is_skipped (without_outer_white line) ≡ true
    → storage_line place line ≡ Ok Skipped
storage_skipped line place e = grind (arith, other_skipped)

-- The entries of storage.conf are the same without a comment or an empty line.
pub storage_without : (groups : List Group) (before after : List (List ℕ)) (line : List ℕ)
    (entries : List Entry) → is_skipped (without_outer_white line) ≡ true
    → HasEntries groups (before ++ line ∷ after) entries
    ↔ HasEntries groups (before ++ after) entries
storage_without groups before after line entries e =
    settings_without (early_fault groups) (λ said. open_fault (place_behind said)) (λ said. groups)
    late_fault (entries_of groups []) (Ok Skipped) (storage_idle groups) LineSays line_one
    (λ b c next. ap (λ (place : Place). (placed_one place next).one) (place_same b c))
    before after line entries
    (λ b. rw (storage_skipped line (place_behind b) e) refl)
