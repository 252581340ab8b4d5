-- The texts that are left as articles are among those that were kept, and each of those that is an
-- article is left.
use Rattle.std.proofs.Common.{◌≡◌, ◌⊎◌, ◌≤◌, Bool, inl, inr, ap, subst, sym, arith, List}
use Rattle.std.proofs.Common.{[], ◌∷◌, length, count_by}
use Rattle.std.proofs.lemmas.List.Elements.{Contains-append_cases, Contains-push_cases}
use Rattle.std.specs.List.{Contains}
use Rattle.buffer_repair.proofs.LeftTexts.{count_one}
use Rattle.found_again.specs.Reading.{AreArticlesOf}
use Rattle.news_terms.specs.Article.{Article, IsArticleText}
use Rattle.relay_model.specs.Fetches.{is_at}
use Rattle.relay_model.specs.State.{Kept}
use Rattle.repair_laws.proofs.UnderTokens.{first_in, later_in}
use Rattle.repair_laws.specs.FoundAll.{AreAtPlaces}

-- what is in a list is its first or behind it
pub in_cases : {X : Type 0} (first : X) (later : List X) (one : X) → Contains (first ∷ later) one
    → (first ≡ one) ⊎ Contains later one
in_cases first later one c = elim (Contains-append_cases (first ∷ []) later one c) [
  | inl p ↦ elim (Contains-push_cases [] first one p) [
    | inl q ↦ absurd (omega (arith, q.1))
    | inr q ↦ inl q
  ]
  | inr p ↦ inr p
]

-- each that is left was kept
pub left_in : (kept left : List Kept) → AreArticlesOf kept left → (one : Kept)
    → Contains left one → Contains kept one
left_in [] left are one c = subst (λ (l : List Kept). Contains l one) are c
left_in (first ∷ kept) left (inl r) one c =
    elim (in_cases first r.0 one (subst (λ (l : List Kept). Contains l one) r.1 c)) [
      | inl same ↦ subst (Contains (first ∷ kept)) same (first_in first kept)
      | inr behind ↦ later_in first kept one (left_in kept r.0 r.2 one behind)
    ]
left_in (first ∷ kept) left (inr r) one c =
    later_in first kept one (left_in kept left r.1 one c)

-- an article that was kept is left
pub article_left : (kept left : List Kept) → AreArticlesOf kept left → (one : Kept) (a : Article)
    → Contains kept one → IsArticleText one.text a → Contains left one
article_left [] left are one a c read = absurd (omega (arith, c.1))
article_left (first ∷ kept) left (inl r) one a c read =
    subst (λ (l : List Kept). Contains l one) (sym r.1)
    (elim (in_cases first kept one c) [
      | inl same ↦ subst (Contains (first ∷ r.0)) same (first_in first r.0)
      | inr behind ↦ later_in first r.0 one (article_left kept r.0 r.2 one a behind read)
    ])
article_left (first ∷ kept) left (inr r) one a c read = elim (in_cases first kept one c) [
  | inl same ↦ absurd (r.0 a (subst (λ (x : Kept). IsArticleText x.text a) (sym same) read))
  | inr behind ↦ article_left kept left r.1 one a behind read
]

-- no more are counted than were
pub left_count : (p : Kept → Bool) (kept left : List Kept) → AreArticlesOf kept left
    → count_by p left ≤ count_by p kept
left_count p [] left are = omega (arith, ap (count_by p) are)
left_count p (first ∷ kept) left (inl r) = omega (
  arith,
  ap (count_by p) r.1,
  count_one p first r.0,
  count_one p first kept,
  left_count p kept r.0 r.2,
)
left_count p (first ∷ kept) left (inr r) = omega (
  arith,
  count_one p first kept,
  left_count p kept left r.1,
)

-- nor are there more
pub left_length : (kept left : List Kept) → AreArticlesOf kept left → length left ≤ length kept
left_length [] left are = omega (arith, ap length are)
left_length (first ∷ kept) left (inl r) =
    omega (arith, ap length r.1, left_length kept r.0 r.2)
left_length (first ∷ kept) left (inr r) = omega (arith, left_length kept left r.1)

-- at a place lies one at most
pub left_places : (kept left : List Kept) → AreArticlesOf kept left → AreAtPlaces kept
    → AreAtPlaces left
left_places kept left are places buffer cycle first =
    omega (arith, places buffer cycle first, left_count (is_at buffer cycle first) kept left are)
