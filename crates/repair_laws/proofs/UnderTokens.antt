-- What is under a token, of texts of which one lies at a place at most: it is the only one, so
-- their order doesn't matter.
use Rattle.std.proofs.Common.{◌≡◌, ◌∙◌, ℕ, Bool, true, true≢false, inl, inr, refl}
use Rattle.std.proofs.Common.{sym, ap, arith, cond, List, [], ◌∷◌, map, Option, None, Some}
use Rattle.std.proofs.Common.{count_by}
use Rattle.std.proofs.Common.{IsPermutation}
use Rattle.std.proofs.lemmas.Bool.{cases_Bool, cond-false, cond-true}
use Rattle.std.proofs.lemmas.List.Elements.{Contains-append_cases, Contains-append_left}
use Rattle.std.proofs.lemmas.List.Elements.{Contains-append_right, Contains-push}
use Rattle.std.proofs.lemmas.List.Elements.{Contains-push_cases}
use Rattle.std.proofs.lemmas.List.Sorted.{Contains-permutation, IsPermutation-sym}
use Rattle.std.proofs.lemmas.List.Sorted.{sum_by-IsPermutation}
use Rattle.std.proofs.lemmas.Option.{none-some, same_Some}
use Rattle.std.specs.List.{Contains}
use Rattle.std.specs.Prelude.{find, option_map}
use Rattle.buffer_repair.proofs.LeftTexts.{count_one, is_under}
use Rattle.buffer_repair.proofs.Without.{is_here, one_counted}
use Rattle.found_again.specs.Reading.{AreSameTexts, unnamed}
use Rattle.news_terms.specs.Token.{Token}
use Rattle.relay_facts.proofs.SameTokens.{same_itself, same_one}
use Rattle.relay_model.specs.Fetches.{is_at, text_under}
use Rattle.relay_model.specs.State.{Kept}
use Rattle.repair_laws.specs.FoundAll.{AreAtPlaces}

-- this text is under the token, as one of these
pub record IsUnder (kept : List Kept) (token : Token) (text : List ℕ) : Type 0 where
  pub one : Kept
  pub among : Contains kept one
  pub this : one.token ≡ token
  pub says : one.text ≡ text

-- the first of a list is in it
pub first_in : {X : Type 0} (first : X) (later : List X) → Contains (first ∷ later) first
first_in first later =
    Contains-append_left (first ∷ []) later first (Contains-push [] first)

-- so is what is behind it
pub later_in : {X : Type 0} (first : X) (later : List X) (one : X) → Contains later one
    → Contains (first ∷ later) one
later_in first later one c = Contains-append_right (first ∷ []) later one c

-- what is found under a token is the text of one that is under it
pub under_is : (kept : List Kept) (token : Token) (text : List ℕ)
    → text_under kept token ≡ Some text → IsUnder kept token text
under_is [] token text e = absurd (none-some text e)
under_is (first ∷ later) token text e = elim (cases_Bool (is_under token first)) [
  | inl is ↦ record {
    one = first;
    among = first_in first later;
    this = same_one first.token token is;
    says = same_Some first.text text
        (sym (ap (option_map (λ (x : Kept). x.text))
        (cond-true (is_under token first) (Some first) (find (is_under token) later) is)) ∙ e);
  }
  | inr off ↦
      let rest = under_is later token text
      (sym (ap (option_map (λ (x : Kept). x.text))
      (cond-false (is_under token first) (Some first) (find (is_under token) later) off)) ∙ e) in
      record {
        one = rest.one;
        among = later_in first later rest.one rest.among;
        this = rest.this;
        says = rest.says;
      }
]

-- a text lies at its own place
at_own : (one other : Kept) → other.token ≡ one.token
    → is_at one.token.buffer one.token.cycle one.token.first other ≡ true
at_own one other same =
    is_here one.token other (record {
      buffer = ap (λ (t : Token). t.buffer) same;
      cycle = ap (λ (t : Token). t.cycle) same;
      first = ap (λ (t : Token). t.first) same;
    })

-- behind a first one there are no more at a place
fewer_behind : (first : Kept) (later : List Kept) → AreAtPlaces (first ∷ later)
    → AreAtPlaces later
fewer_behind first later places buffer cycle n = omega (
  arith,
  places buffer cycle n,
  count_one (is_at buffer cycle n) first later,
)

-- each text is the one that is found under its token
pub found_under : (kept : List Kept) → AreAtPlaces kept → (one : Kept) → Contains kept one
    → text_under kept one.token ≡ Some one.text
found_under [] places one c = absurd (omega (arith, c.1))
found_under (first ∷ later) places one c = elim (cases_Bool (is_under one.token first)) [
  | inl is ↦
      ap (option_map (λ (x : Kept). x.text))
      (cond-true (is_under one.token first) (Some first) (find (is_under one.token) later) is)
      ∙ elim (Contains-append_cases (first ∷ []) later one c) [
        | inl p ↦ elim (Contains-push_cases [] first one p) [
          | inl q ↦ absurd (omega (arith, q.1))
          | inr q ↦ ap (λ (x : Kept). Some x.text) q
        ]
        | inr p ↦
            let at = is_at one.token.buffer one.token.cycle one.token.first in
            absurd (omega (
              arith,
              places one.token.buffer one.token.cycle one.token.first,
              count_one at first later,
              cond-true {A = ℕ} (at first) 1 0
                  (at_own one first (same_one first.token one.token is)),
              one_counted at later one p (at_own one one refl),
            ))
      ]
  | inr off ↦
      ap (option_map (λ (x : Kept). x.text))
      (cond-false (is_under one.token first) (Some first) (find (is_under one.token) later) off)
      ∙ elim (Contains-append_cases (first ∷ []) later one c) [
        | inl p ↦ elim (Contains-push_cases [] first one p) [
          | inl q ↦ absurd (omega (arith, q.1))
          | inr q ↦ absurd (true≢false (sym (same_itself one.token)
              ∙ ap (λ (x : Kept). is_under one.token x) (sym q) ∙ off))
        ]
        | inr p ↦ found_under later (fewer_behind first later places) one p
      ]
]

-- so what is under a token is found under it
pub under_found : (kept : List Kept) → AreAtPlaces kept → (token : Token) (text : List ℕ)
    → IsUnder kept token text → text_under kept token ≡ Some text
under_found kept places token text is =
    ap (text_under kept) (sym is.this) ∙ found_under kept places is.one is.among
    ∙ ap Some is.says

-- ANOTHER ORDER

-- in another order one lies at a place at most too
pub places_permuted : (kept other : List Kept) → IsPermutation kept other → AreAtPlaces kept
    → AreAtPlaces other
places_permuted kept other order places buffer cycle first = omega (
  arith,
  places buffer cycle first,
  sum_by-IsPermutation (λ one. cond (is_at buffer cycle first one) 1 0) kept other order,
)

-- what is under a token in one order is in another
under_permuted : (kept other : List Kept) → IsPermutation kept other → (token : Token)
    (text : List ℕ) → IsUnder kept token text → IsUnder other token text
under_permuted kept other order token text is = record {
  one = is.one;
  among = Contains-permutation kept other is.one order is.among;
  this = is.this;
  says = is.says;
}

-- two answers that are the same where there is one are the same
same_answers : {X : Type 0} (a b : Option X) → ((x : X) → a ≡ Some x → b ≡ Some x)
    → ((x : X) → b ≡ Some x → a ≡ Some x) → a ≡ b
same_answers None None there back = refl
same_answers None (Some x) there back = back x refl
same_answers (Some x) b there back = sym (there x refl)

-- so the same is found
pub found_permuted : (kept other : List Kept) → IsPermutation kept other → AreAtPlaces kept
    → (token : Token) → text_under kept token ≡ text_under other token
found_permuted kept other order places token =
    same_answers (text_under kept token) (text_under other token)
    (λ text e.
    under_found other (places_permuted kept other order places) token text
    (under_permuted kept other order token text (under_is kept token text e)))
    (λ text e.
    under_found kept places token text
    (under_permuted other kept (IsPermutation-sym kept other order) token text
    (under_is other token text e)))

-- OTHER IDS

-- a count of the texts for no ids
pub count_map : {X Y : Type 0} (p : Y → Bool) (f : X → Y) (xs : List X)
    → count_by p (map f xs) ≡ count_by (λ x. p (f x)) xs
count_map p f [] = refl
count_map {X} {Y} p f (x ∷ xs) = omega (
  arith,
  count_one p (f x) (map f xs),
  count_one (λ (y : X). p (f y)) x xs,
  count_map p f xs,
)

-- without their ids they lie where they lay
pub places_unnamed : (kept : List Kept) → AreAtPlaces kept → AreAtPlaces (map unnamed kept)
places_unnamed kept places buffer cycle first = omega (
  arith,
  places buffer cycle first,
  count_map (is_at buffer cycle first) unnamed kept,
)

-- and the same is found under a token
pub unnamed_under : (kept : List Kept) (token : Token)
    → text_under (map unnamed kept) token ≡ text_under kept token
unnamed_under [] token = refl
unnamed_under (first ∷ later) token = elim (cases_Bool (is_under token first)) [
  | inl is ↦
      ap (option_map (λ (x : Kept). x.text))
      (cond-true (is_under token first) (Some (unnamed first))
      (find (is_under token) (map unnamed later)) is)
      ∙ sym (ap (option_map (λ (x : Kept). x.text))
      (cond-true (is_under token first) (Some first) (find (is_under token) later) is))
  | inr off ↦
      ap (option_map (λ (x : Kept). x.text))
      (cond-false (is_under token first) (Some (unnamed first))
      (find (is_under token) (map unnamed later)) off)
      ∙ unnamed_under later token
      ∙ sym (ap (option_map (λ (x : Kept). x.text))
      (cond-false (is_under token first) (Some first) (find (is_under token) later) off))
]

-- so the same is found in whatever order, for whatever ids
pub found_same : (kept other : List Kept) → AreSameTexts kept other → AreAtPlaces kept
    → (token : Token) → text_under kept token ≡ text_under other token
found_same kept other same places token =
    sym (unnamed_under kept token)
    ∙ found_permuted (map unnamed kept) (map unnamed other) same (places_unnamed kept places) token
    ∙ unnamed_under other token

-- and as many are counted, by a test that doesn't look at ids
pub count_same : (p : Kept → Bool) (kept other : List Kept) → AreSameTexts kept other
    → count_by (λ one. p (unnamed one)) kept ≡ count_by (λ one. p (unnamed one)) other
count_same p kept other same = omega (
  arith,
  count_map p unnamed kept,
  count_map p unnamed other,
  sum_by-IsPermutation (λ one. cond (p one) 1 0) (map unnamed kept) (map unnamed other) same,
)

-- so one lies at a place at most
pub places_same : (kept other : List Kept) → AreSameTexts kept other → AreAtPlaces kept
    → AreAtPlaces other
places_same kept other same places buffer cycle first = omega (
  arith,
  places buffer cycle first,
  count_same (is_at buffer cycle first) kept other same,
)
