-- The test of a pattern says what the pattern's parts say, and a verdict is the last mark's.
use Rattle.std.proofs.Common.{◌≡◌, ℕ, Bool, true, not, List, [], ◌∷◌, ◌++◌, map, Option, Some, None}
use Rattle.std.proofs.Common.{refl, sym, ap, subst, ◌∙◌, inl, inr}
use Rattle.std.specs.Prelude.{◌==◌, IsTrue, IsFalse, filter, unwrap_or}
use Rattle.std.specs.List.{list_any, last_or, AllByRecursion}
use Rattle.std.proofs.lemmas.Bool.{and_parts, and_from, or_cases, or_parts, or_left, or_right}
use Rattle.std.proofs.lemmas.Bool.{eqb-true, eq-eqb, both_ways, not-true, not_from_false, or_from}
use Rattle.std.proofs.lemmas.Bool.{false_from_ne_true}
use Rattle.std.proofs.lemmas.List.Elements.{filter-append}
use Rattle.std.proofs.lemmas.List.{map-append}
use Rattle.news_terms.specs.Article.{is_empty}
use Rattle.news_terms.specs.Pattern.{Item, Star, AnyOctet, Literal, Escaped, OneOf, NoneOf, Matches}
use Rattle.news_terms.specs.Pattern.{matches, is_of_set, rests, first_and_others, Marked, Fail}
use Rattle.news_terms.specs.Pattern.{verdict}

-- a rest of a text that passes, and what stands before it
rest_that_passes : (passes : List ℕ → Bool) (text : List ℕ) → IsTrue (list_any passes (rests text))
    → (front : List ℕ) × (rest : List ℕ) × (text ≡ front ++ rest) × IsTrue (passes rest)
rest_that_passes passes [] h =
    elim (or_cases _ _ h) [ inl y ↦ ([], [], refl, y) | inr n ↦ absurd (both_ways _ refl n) ]
rest_that_passes passes (c ∷ text) h =
    elim (or_cases _ _ h) [
      | inl y ↦ ([], c ∷ text, refl, y)
      | inr l ↦ let r = rest_that_passes passes text l in (c ∷ r.0, r.1, ap (λ x. c ∷ x) r.2, r.3)
    ]

-- and the other way round
passing_rest : (passes : List ℕ → Bool) (front rest : List ℕ) → IsTrue (passes rest)
    → IsTrue (list_any passes (rests (front ++ rest)))
passing_rest passes [] [] h = or_left _ _ h
passing_rest passes [] (c ∷ rest) h = or_left _ _ h
passing_rest passes (c ∷ front) rest h = or_right _ _ (passing_rest passes front rest h)

-- the first octet of a name and the others, each passing
first_passes : (passes : ℕ → Bool) (others : List ℕ → Bool) (name : List ℕ)
    → IsTrue (first_and_others passes others name)
    → (c : ℕ) × (rest : List ℕ) × (name ≡ c ∷ rest) × IsTrue (passes c) × IsTrue (others rest)
first_passes passes others [] h = absurd (both_ways _ refl h)
first_passes passes others (c ∷ rest) h =
    let p = and_parts (passes c) (others rest) h in (c, rest, refl, p.0, p.1)

-- the test implies the relation
pub matches-true : (pattern : List Item) (name : List ℕ) → IsTrue (matches pattern name)
    → Matches pattern name
matches-true [] [] h = refl
matches-true [] (c ∷ name) h = absurd (both_ways _ refl h)
matches-true (Star ∷ more) name h =
    let r = rest_that_passes (λ rest. matches more rest) name h in
    (r.0, r.1, r.2, matches-true more r.1 r.3)
matches-true (AnyOctet ∷ more) name h =
    let r = first_passes (λ _. true) (λ rest. matches more rest) name h in
    (r.0, r.1, r.2, matches-true more r.1 r.4)
matches-true (Literal x ∷ more) name h =
    let r = first_passes (λ c. c == x) (λ rest. matches more rest) name h in
    (r.1, r.2 ∙ ap (λ c. c ∷ r.1) (eqb-true r.0 x r.3), matches-true more r.1 r.4)
matches-true (Escaped x ∷ more) name h =
    let r = first_passes (λ c. c == x) (λ rest. matches more rest) name h in
    (r.1, r.2 ∙ ap (λ c. c ∷ r.1) (eqb-true r.0 x r.3), matches-true more r.1 r.4)
matches-true (OneOf set ∷ more) name h =
    let r = first_passes (is_of_set set) (λ rest. matches more rest) name h in
    (r.0, r.1, r.2, r.3, matches-true more r.1 r.4)
matches-true (NoneOf set ∷ more) name h =
    let r = first_passes (λ c. not (is_of_set set c)) (λ rest. matches more rest) name h in
    (r.0, r.1, r.2, not-true _ r.3, matches-true more r.1 r.4)

-- the relation implies the test
pub true_matches : (pattern : List Item) (name : List ℕ) → Matches pattern name
    → IsTrue (matches pattern name)
true_matches [] name h = subst (λ (x : List ℕ). IsTrue (is_empty x)) (sym h) refl
true_matches (Star ∷ more) name h =
    subst (λ (x : List ℕ). IsTrue (matches (Star ∷ more) x)) (sym h.2)
    (passing_rest (λ rest. matches more rest) h.0 h.1 (true_matches more h.1 h.3))
true_matches (AnyOctet ∷ more) name h =
    subst (λ (x : List ℕ). IsTrue (matches (AnyOctet ∷ more) x)) (sym h.2)
    (true_matches more h.1 h.3)
true_matches (Literal x ∷ more) name h =
    subst (λ (y : List ℕ). IsTrue (matches (Literal x ∷ more) y)) (sym h.1)
    (and_from _ _ (eq-eqb x x refl) (true_matches more h.0 h.2))
true_matches (Escaped x ∷ more) name h =
    subst (λ (y : List ℕ). IsTrue (matches (Escaped x ∷ more) y)) (sym h.1)
    (and_from _ _ (eq-eqb x x refl) (true_matches more h.0 h.2))
true_matches (OneOf set ∷ more) name h =
    subst (λ (x : List ℕ). IsTrue (matches (OneOf set ∷ more) x)) (sym h.2)
    (and_from _ _ h.3 (true_matches more h.1 h.4))
true_matches (NoneOf set ∷ more) name h =
    subst (λ (x : List ℕ). IsTrue (matches (NoneOf set ∷ more) x)) (sym h.2)
    (and_from _ _ (not_from_false _ h.3) (true_matches more h.1 h.4))

-- where no element passes, the filter keeps none
filter-none : {A : Type 0} (p : A → Bool) (xs : List A) → IsFalse (list_any p xs) → filter p xs ≡ []
filter-none p [] h = refl
filter-none p (x ∷ xs) h =
    let parts = or_parts (p x) (list_any p xs) h in rw parts.0 (filter-none p xs parts.1)

-- the last of a list is what stands at its end
last_or-append : {A : Type 0} (o : Option A) (xs : List A) (y : A)
    → last_or o (xs ++ y ∷ []) ≡ Some y
last_or-append o [] y = refl
last_or-append o (x ∷ xs) y = last_or-append (Some x) xs y

-- the last pattern that matches decides
pub verdict-last : (before after : List Marked) (m : Marked) (name : List ℕ)
    → IsTrue (matches m.pattern name) → IsFalse (list_any (λ x. matches x.pattern name) after)
    → verdict (before ++ m ∷ after) name ≡ m.mark
verdict-last before after m name h none =
    let passes : Marked → Bool = λ x. matches x.pattern name in
    let kept : filter passes (before ++ m ∷ after) ≡ filter passes before ++ m ∷ [] =
    filter-append passes before (m ∷ after)
    ∙ ap (λ x. filter passes before ++ x)
    (rw h (ap (λ x. m ∷ x) (filter-none passes after none))) in
    ap (λ x. unwrap_or (last_or None x) Fail)
    (ap (map (λ x. x.mark)) kept
    ∙ map-append (λ (x : Marked). x.mark) (filter passes before) (m ∷ []))
    ∙ ap (λ x. unwrap_or x Fail)
    (last_or-append None (map (λ (x : Marked). x.mark) (filter passes before)) m.mark)

-- where none matches, the verdict is Fail
pub verdict-none : (expression : List Marked) (name : List ℕ)
    → IsFalse (list_any (λ x. matches x.pattern name) expression) → verdict expression name ≡ Fail
verdict-none expression name h =
    ap (λ (x : List Marked). unwrap_or (last_or None (map (λ y. y.mark) x)) Fail)
    (filter-none (λ (x : Marked). matches x.pattern name) expression h)

-- where each pattern fails to match, the test says so
pub none_matches : (name : List ℕ) (expression : List Marked)
    → AllByRecursion (λ other. ¬ Matches other.pattern name) expression
    → IsFalse (list_any (λ x. matches x.pattern name) expression)
none_matches name [] h = refl
none_matches name (m ∷ expression) h =
    or_from _ _ (false_from_ne_true _ (λ t. h.0 (matches-true m.pattern name t)))
    (none_matches name expression h.1)
