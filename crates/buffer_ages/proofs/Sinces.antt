-- What is told is the moment of the first mark past a place, with one before it that is not.
use Rattle.std.proofs.Common.{◌≡◌, ◌∙◌, ℕ, ◌<◌, ◌≤◌, Bool, true, false, List, [], ◌∷◌, ◌++◌}
use Rattle.std.proofs.Common.{Some, None, refl, ap, sym, subst, arith, append_assoc}
use Rattle.std.specs.Prelude.{All, nat_le, nat_lt, cond}
use Rattle.std.proofs.lemmas.Bool.{ltb-true, ltb-false, leb-true, lt-ltb, le-ltb, le-leb}
use Rattle.std.proofs.lemmas.List.Elements.{All-append, All-cons, All-head, All-nil, All-tail}
use Rattle.buffer_ages.specs.Laws.{IsSince}
use Rattle.buffer_ages.specs.Marks.{first_past, oldest_live, past_behind, since}
use Rattle.buffer_ages.specs.declared.marks.Mark.{Mark}

-- What is there is one value.
some_is : (a b : ℕ) → Some a ≡ Some b → a ≡ b
some_is a b is = cc

-- Behind marks of which none is past a place, the first past it is the first of all.
told_past : (place moment : ℕ) (first : Mark) (earlier marks : List Mark)
    → All (λ other. other.front ≤ place) (first ∷ earlier) → first_past place marks ≡ Some moment
    → IsSince ((first ∷ earlier) ++ marks) place moment
told_past place moment first earlier [] are is = cc
told_past place moment first earlier (mark ∷ marks) are is =
    by (nat_lt place mark.front) refl is
    (λ all told. told_past place moment first (earlier ++ mark ∷ []) marks all told)
  where
    by : (b : Bool) → nat_lt place mark.front ≡ b
        → cond b (Some mark.moment) (first_past place marks) ≡ Some moment
        → (All (λ other. other.front ≤ place) (first ∷ (earlier ++ mark ∷ []))
        → first_past place marks ≡ Some moment
        → IsSince ((first ∷ (earlier ++ mark ∷ [])) ++ marks) place moment)
        → IsSince ((first ∷ earlier) ++ mark ∷ marks) place moment
    by true past told later = record {
      first = first;
      earlier = earlier;
      mark = mark;
      later = marks;
      all = refl;
      unpast = are;
      past = ltb-true place mark.front past;
      told = some_is mark.moment moment told;
    }
    by false past told later =
        let P : Mark → Type 0 = λ other. other.front ≤ place in
        let one : All P (mark ∷ []) =
        All-cons P mark [] (ltb-false place mark.front past) (All-nil P) in
        subst (λ (all : List Mark). IsSince all place moment)
        (append_assoc (first ∷ earlier) (mark ∷ []) marks)
        (later (All-append P (first ∷ earlier) (mark ∷ []) are one) told)

-- The same of all marks.
behind_is : (place moment : ℕ) (marks : List Mark) → past_behind place marks ≡ Some moment
    → IsSince marks place moment
behind_is place moment [] is = cc
behind_is place moment (mark ∷ marks) is = by (nat_le mark.front place) refl is
  where
    by : (b : Bool) → nat_le mark.front place ≡ b
        → cond b (first_past place marks) None ≡ Some moment
        → IsSince (mark ∷ marks) place moment
    by true unpast told =
        let P : Mark → Type 0 = λ other. other.front ≤ place in
        told_past place moment mark [] marks
        (All-cons P mark [] (leb-true mark.front place unpast) (All-nil P)) told
    by false unpast told = cc

-- What is told is so.
pub is_since : (marks : List Mark) (front blocks moment : ℕ)
    → since marks front blocks ≡ Some moment
    → IsSince marks (oldest_live front blocks) moment
is_since marks front blocks moment is = behind_is (oldest_live front blocks) moment marks is

-- Marks that aren't past a place are passed over.
passed : (place : ℕ) (earlier : List Mark) (mark : Mark) (later : List Mark)
    → All (λ other. other.front ≤ place) earlier → place < mark.front
    → first_past place (earlier ++ mark ∷ later) ≡ Some mark.moment
passed place [] mark later are past = rw (lt-ltb place mark.front past) refl
passed place (other ∷ earlier) mark later are past =
    let P : Mark → Type 0 = λ one. one.front ≤ place in
    rw (le-ltb place other.front (All-head P other earlier are))
    (passed place earlier mark later (All-tail P other earlier are) past)

-- And what is so is told.
pub so_told : (marks : List Mark) (front blocks moment : ℕ)
    → IsSince marks (oldest_live front blocks) moment → since marks front blocks ≡ Some moment
so_told marks front blocks moment is =
    let place = oldest_live front blocks in
    let P : Mark → Type 0 = λ one. one.front ≤ place in
    let least = All-head P is.first is.earlier is.unpast in
    let rest = passed place is.earlier is.mark is.later
    (All-tail P is.first is.earlier is.unpast) is.past in
    ap (past_behind place) is.all
    ∙ rw (le-leb is.first.front place least) (rest ∙ ap Some is.told)

-- Where the front was as far as marks say, places that it came to since that moment are live.
pub is_there : (front_at : ℕ → ℕ) (marks : List Mark) (front blocks moment place : ℕ)
    → All (λ mark. mark.front ≤ front_at mark.moment) marks → since marks front blocks ≡ Some moment
    → front_at moment ≤ place → oldest_live front blocks < place
is_there front_at marks front blocks moment place are told came =
    let is = is_since marks front blocks moment told in
    let Q : Mark → Type 0 = λ mark. mark.front ≤ front_at mark.moment in
    let all = subst (All Q) is.all are in
    let one : is.mark.front ≤ front_at is.mark.moment =
    of_middle Q (is.first ∷ is.earlier) is.mark is.later all in
    let at : is.mark.front ≤ front_at moment =
    subst (λ (when : ℕ). is.mark.front ≤ front_at when) is.told one in
    omega (arith, at, came, is.past)
  where
    of_middle : (Q : Mark → Type 0) (front : List Mark) (mark : Mark) (behind : List Mark)
        → All Q (front ++ mark ∷ behind) → Q mark
    of_middle Q [] mark behind are = All-head Q mark behind are
    of_middle Q (other ∷ front) mark behind are =
        of_middle Q front mark behind (All-tail Q other (front ++ mark ∷ behind) are)
