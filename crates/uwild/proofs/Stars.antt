-- Remembering the last star is enough: an earlier one with more octets leaves fewer to it.
use Rattle.std.proofs.Common.{◌≡◌, ℕ, zero, suc, Bool, true, false, not, List, [], ◌∷◌, ◌++◌}
use Rattle.std.proofs.Common.{length, drop, refl, sym, ap, subst, ◌∙◌, inl, inr}
use Rattle.std.proofs.Math.Seq.{drop-append_seam}
use Rattle.std.specs.Prelude.{◌||◌, ◌&&◌, IsTrue, IsFalse}
use Rattle.std.specs.List.{list_all}
use Rattle.std.proofs.lemmas.Bool.{and_parts, or_cases, or_right, both_ways, not-true}
use Rattle.news_terms.specs.Pattern.{Item, Star, AnyOctet, Literal, Escaped, OneOf, NoneOf, matches}
use Rattle.uwild.specs.Walks.{is_star, takes, later}

-- a part that is no star takes the first octet, and the others match what is left
pub item_step : (item : Item) (more : List Item) (c : ℕ) (name : List ℕ) → IsFalse (is_star item)
    → matches (item ∷ more) (c ∷ name) ≡ takes item c && matches more name
item_step Star more c name h = absurd (both_ways _ h refl)
item_step AnyOctet more c name h = refl
item_step (Literal x) more c name h = refl
item_step (Escaped x) more c name h = refl
item_step (OneOf set) more c name h = refl
item_step (NoneOf set) more c name h = refl

-- it matches no empty name
pub item_end : (item : Item) (more : List Item) → IsFalse (is_star item)
    → matches (item ∷ more) [] ≡ false
item_end Star more h = absurd (both_ways _ h refl)
item_end AnyOctet more h = refl
item_end (Literal x) more h = refl
item_end (Escaped x) more h = refl
item_end (OneOf set) more h = refl
item_end (NoneOf set) more h = refl

-- a star has no octet, or more
pub star_tried : (items : List Item) (name : List ℕ)
    → matches (Star ∷ items) name ≡ matches items name || later items name
star_tried items [] = refl
star_tried items (c ∷ name) = refl

-- behind parts that are no stars, what follows them matches what they leave
run_leaves : (run items : List Item) (name : List ℕ) → IsTrue (list_all (λ i. not (is_star i)) run)
    → IsTrue (matches (run ++ items) name) → IsTrue (matches items (drop (length run) name))
run_leaves [] items name n h = h
run_leaves (i ∷ run) items [] n h =
    let parts = and_parts (not (is_star i)) (list_all (λ j. not (is_star j)) run) n in
    absurd (both_ways _ (item_end i (run ++ items) (not-true _ parts.0)) h)
run_leaves (i ∷ run) items (c ∷ name) n h =
    let parts = and_parts (not (is_star i)) (list_all (λ j. not (is_star j)) run) n in
    let both = and_parts (takes i c) (matches (run ++ items) name)
    (sym (item_step i (run ++ items) c name (not-true _ parts.0)) ∙ h) in
    run_leaves run items name parts.1 both.1

-- a star takes one octet more
star_more : (items : List Item) (k c : ℕ) (name : List ℕ)
    → IsTrue (matches (Star ∷ items) (drop k name))
    → IsTrue (matches (Star ∷ items) (drop k (c ∷ name)))
star_more items zero c name h = or_right _ _ h
star_more items (suc zero) c [] h = h
star_more items (suc (suc k)) c [] h = h
star_more items (suc k) c (d ∷ name) h = star_more items k d name h

-- a star behind another and a run of parts: it can be tried where the run leaves most
pub star_again : (run more : List Item) (name : List ℕ)
    → IsTrue (list_all (λ i. not (is_star i)) run)
    → IsTrue (matches (Star ∷ (run ++ Star ∷ more)) name)
    → IsTrue (matches (Star ∷ more) (drop (length run) name))
star_again run more [] n h = elim (or_cases _ _ h) [
  | inl y ↦ run_leaves run (Star ∷ more) [] n y
  | inr l ↦ absurd (both_ways _ refl l)
]
star_again run more (c ∷ name) n h = elim (or_cases _ _ h) [
  | inl y ↦ run_leaves run (Star ∷ more) (c ∷ name) n y
  | inr l ↦ star_more more (length run) c name (star_again run more name n l)
]

-- where an earlier star with more octets matches, the last one does where it stands
pub earlier_star : (run more : List Item) (taken name text : List ℕ) → text ≡ taken ++ name
    → length taken ≡ length run → IsTrue (list_all (λ i. not (is_star i)) run)
    → IsTrue (later (run ++ Star ∷ more) text) → IsTrue (matches (Star ∷ more) name)
earlier_star run more taken name [] e long n h = absurd (both_ways _ refl h)
earlier_star run more taken name (c ∷ text) e long n h =
    let left : drop (length run) (c ∷ text) ≡ name =
    ap (λ x. drop (length run) x) e ∙ ap (λ k. drop k (taken ++ name)) (sym long)
    ∙ drop-append_seam taken name in
    subst (λ (x : List ℕ). IsTrue (matches (Star ∷ more) x)) left
    (star_more more (length run) c text (star_again run more text n h))

-- so trying the last star again is all that is left to try
pub last_star : (run more : List Item) (taken name text : List ℕ) → text ≡ taken ++ name
    → length taken ≡ length run → IsTrue (list_all (λ i. not (is_star i)) run)
    → matches (Star ∷ more) name || later (run ++ Star ∷ more) text
    ≡ matches more name || later more name
last_star run more taken name text e long n =
    or_absorbs (matches (Star ∷ more) name) (later (run ++ Star ∷ more) text)
    (earlier_star run more taken name text e long n)
    ∙ star_tried more name
  where
    or_absorbs : (a b : Bool) → (IsTrue b → IsTrue a) → (a || b) ≡ a
    or_absorbs true b h = refl
    or_absorbs false true h = sym (h refl)
    or_absorbs false false h = refl
