-- Where the sample of a line stands in the exposition.
use Rattle.std.proofs.Common.{◌≡◌, ◌∙◌, ◌++◌, ◌∷◌, [], List, ℕ, Bool, true, false, Some}
use Rattle.std.proofs.Common.{ap, sym, refl, subst, append_assoc, append-nil, codes, count_by}
use Rattle.std.proofs.Common.{flat_map, slice_get}
use Rattle.std.specs.Prelude.{◌||◌, is_some}
use Rattle.std.specs.List.{list_any}
use Rattle.std.proofs.lemmas.Bool.{eqb-true}
use Rattle.std.proofs.lemmas.Grind.{flat_map-append}
use Rattle.relay_metrics.specs.Exposition.{count_text, exposition_of, family_head}
use Rattle.relay_metrics.specs.Exposition.{family_text, has_sample, is_unread, sample, sample_of}
use Rattle.relay_metrics.specs.Exposition.{sample_text}
use Rattle.relay_metrics.specs.Families.{Family, report_families, unread_family, value_in, value_of}
use Rattle.relay_metrics.specs.Laws.{HasPart, tells}
use Rattle.relay_metrics.specs.Lines.{Line, report_lines}
use Rattle.relay_metrics.specs.declared.families.Value.{Value}
use Rattle.relay_metrics.specs.declared.families.Value.TheVariants.{OfBuffer, OfFeed, OfIds, OfPeer}
use Rattle.relay_metrics.specs.declared.families.Value.TheVariants.{OfOldest, OfRefusals, OfSize}
use Rattle.relay_metrics.specs.declared.lines.Subject.{Subject}
use Rattle.relay_metrics.specs.declared.lines.Subject.TheVariants.{Buffer, Feed, Ids, Peer}
use Rattle.relay_metrics.specs.declared.lines.Subject.TheVariants.{Oldest, Refusals, Size}

-- A part of a part is a part.
pub within : (text middle part : List ℕ) → HasPart text middle → HasPart middle part
    → HasPart text part
within text middle part one two = record {
  before = one.before ++ two.before;
  after = two.after ++ one.after;
  whole = one.whole ∙ ap (λ (m : List ℕ). one.before ++ (m ++ one.after)) two.whole
      ∙ simp append_assoc;
}

-- What is made of one of a list is a part of what is made of all.
pub one_of_all : {A : Type 0} (f : A → List ℕ) (front back : List A) (x : A)
    → HasPart (flat_map f (front ++ x ∷ back)) (f x)
one_of_all f front back x = record {
  before = flat_map f front;
  after = flat_map f back;
  whole = flat_map-append f front (x ∷ back);
}

-- One that passes is enough.
one_passes : {A : Type 0} (p : A → Bool) (front back : List A) (x : A) → p x ≡ true
    → list_any p (front ++ x ∷ back) ≡ true
one_passes p [] back x is = rw is refl
one_passes p (y ∷ front) back x is = by_first (p y) (one_passes p front back x is)
  where
    by_first : (b : Bool) → list_any p (front ++ x ∷ back) ≡ true
        → (b || list_any p (front ++ x ∷ back)) ≡ true
    by_first true rest = refl
    by_first false rest = rest

-- The sample of a line is a part of its family's text.
of_family : (lines front back : List Line) (line : Line) (family : Family) (value : List ℕ)
    → lines ≡ front ++ line ∷ back → value_in family line ≡ Some value
    → HasPart (family_text lines family) (sample_text family line.name value)
of_family lines front back line family value are is =
    let has : has_sample family line ≡ true = ap is_some is in
    let any : list_any (has_sample family) lines ≡ true =
    ap (list_any (has_sample family)) are ∙ one_passes (has_sample family) front back line has in
    let one : sample family line ≡ sample_text family line.name value =
    ap (sample_of family line.name) is in
    let all = flat_map (sample family) lines in
    let told : HasPart all (sample_text family line.name value) =
    subst (λ (o : List ℕ). HasPart all o) one
    (subst (λ (ls : List Line). HasPart (flat_map (sample family) ls) (sample family line))
    (sym are) (one_of_all (sample family) front back line)) in
    let behind : HasPart (family_head family ++ all) all = record {
      before = family_head family;
      after = [];
      whole = ap (λ (o : List ℕ). family_head family ++ o) (sym (append-nil all));
    } in
    let is_text : family_text lines family ≡ family_head family ++ all = rw any refl in
    subst (λ (o : List ℕ). HasPart o (sample_text family line.name value)) (sym is_text)
    (within _ _ _ behind told)

-- The sample of a line is a part of the exposition.
pub of_report : (report value : List ℕ) (line : Line) (front back : List Line) (family : Family)
    (before after : List Family) → report_lines report ≡ front ++ line ∷ back
    → report_families ≡ before ++ family ∷ after → value_in family line ≡ Some value
    → HasPart (exposition_of report) (sample_text family line.name value)
of_report report value line front back family before after are these is =
    let lines = report_lines report in
    let all = flat_map (family_text lines) report_families in
    let end = codes "# EOF\n" in
    let counted = count_text unread_family (count_by is_unread lines) in
    let in_all : HasPart all (family_text lines family) =
    subst (λ (fs : List Family). HasPart (flat_map (family_text lines) fs)
    (family_text lines family)) (sym these) (one_of_all (family_text lines) before after family) in
    let in_front : HasPart (all ++ counted ++ end) all =
    record { before = []; after = counted ++ end; whole = append_assoc all counted end } in
    within _ _ _ in_front
    (within _ _ _ in_all (of_family lines front back line family value are is))

-- A family that tells a number has it as its value.
pub told_value : (value : Value) (subject : Subject) (place : ℕ) (numbers : List (List ℕ))
    → tells value subject place ≡ true → value_of value subject numbers ≡ slice_get numbers place
told_value (OfBuffer other) Buffer place numbers is =
    ap (slice_get numbers) (eqb-true other place is)
told_value (OfFeed other) Feed place numbers is = ap (slice_get numbers) (eqb-true other place is)
told_value (OfIds other) Ids place numbers is = ap (slice_get numbers) (eqb-true other place is)
told_value (OfPeer other) Peer place numbers is = ap (slice_get numbers) (eqb-true other place is)
told_value (OfRefusals other) Refusals place numbers is =
    ap (slice_get numbers) (eqb-true other place is)
told_value (OfSize other) Size place numbers is = ap (slice_get numbers) (eqb-true other place is)
told_value (OfOldest other) Oldest place numbers is =
    ap (slice_get numbers) (eqb-true other place is)
told_value value subject place numbers is = cc
