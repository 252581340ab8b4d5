-- What is dealt is each item once, and those of a list in their order.
use Rattle.std.proofs.Common.{◌≡◌, ◌∙◌, ap, sym, refl, subst, arith, inl, inr, ◌-◌, ◌≤◌, ℕ}
use Rattle.std.proofs.Common.{zero, suc, List, [], ◌∷◌, ◌++◌, length, map, append_assoc}
use Rattle.std.specs.Prelude.{flat_map, IsPermutation}
use Rattle.std.specs.List.{AllByRecursion}
use Rattle.std.proofs.lemmas.List.{append-nil, length-take, take-append-drop, nil_from_length}
use Rattle.std.proofs.lemmas.List.Sorted.{IsPermutation-refl, IsPermutation-trans}
use Rattle.std.proofs.lemmas.List.Sorted.{IsPermutation-append_comm, IsPermutation-append_left}
use Rattle.std.proofs.lemmas.List.Sorted.{IsPermutation-append_right}
use Rattle.news_terms.specs.Ring.{last_of}
use Rattle.found_again.specs.Dealing.{IsWithin, but_last, lasts, longest, rounds, dealt}

-- all items of all lists
abbrev joined : {X : Type 0} → List (List X) → List X
joined lists = flat_map (λ items. items) lists

-- a list is what comes before its last, and its last
pub parted : {X : Type 0} (items : List X) → but_last items ++ last_of 1 items ≡ items
parted items = take-append-drop (length items - 1) items

-- what is left after a round is shorter
shorter : {X : Type 0} (n : ℕ) (lists : List (List X)) → longest lists ≤ suc n
    → longest (map but_last lists) ≤ n
shorter n [] most = omega arith
shorter n (items ∷ others) most =
    let rest : longest (map but_last others) ≤ n =
    shorter n others (omega (arith, most)) in
    omega (arith, most, rest, length-take (length items - 1) items)

-- where none has an item there is none
none_joined : {X : Type 0} (lists : List (List X)) → longest lists ≤ 0 → joined lists ≡ []
none_joined [] most = refl
none_joined (items ∷ others) most =
    ap (λ xs. xs ++ joined others) (nil_from_length items (omega (arith, most)))
    ∙ none_joined others (omega (arith, most))

-- a round takes the last of each
round_permutes : {X : Type 0} (lists : List (List X))
    → IsPermutation (joined lists) (joined (map but_last lists) ++ lasts lists)
round_permutes [] = IsPermutation-refl []
round_permutes (items ∷ others) =
    let front = but_last items in
    let last = last_of 1 items in
    let fronts = joined (map but_last others) in
    let swapped = IsPermutation-trans (last ++ joined others) (joined others ++ last)
    ((fronts ++ lasts others) ++ last)
    (IsPermutation-append_comm last (joined others))
    (IsPermutation-append_left last (joined others) (fronts ++ lasts others)
    (round_permutes others)) in
    subst (λ xs. IsPermutation (xs ++ joined others) ((front ++ fronts) ++ (lasts others ++ last)))
    (parted items)
    (subst (λ xs. IsPermutation xs ((front ++ fronts) ++ (lasts others ++ last)))
    (sym (append_assoc front last (joined others)))
    (subst (IsPermutation (front ++ (last ++ joined others)))
    (ap (λ xs. front ++ xs) (append_assoc fronts (lasts others) last)
    ∙ sym (append_assoc front fronts (lasts others ++ last)))
    (IsPermutation-append_right front (last ++ joined others) ((fronts ++ lasts others) ++ last)
    swapped)))

-- so many rounds as the longest is long give each item once
rounds_permute : {X : Type 0} (n : ℕ) (lists : List (List X)) → longest lists ≤ n
    → IsPermutation (joined lists) (rounds n lists)
rounds_permute zero lists most =
    subst (IsPermutation (joined lists)) (none_joined lists most)
    (IsPermutation-refl (joined lists))
rounds_permute (suc n) lists most =
    IsPermutation-trans (joined lists) (joined (map but_last lists) ++ lasts lists)
    (rounds n (map but_last lists) ++ lasts lists) (round_permutes lists)
    (IsPermutation-append_left (lasts lists) (joined (map but_last lists))
    (rounds n (map but_last lists))
    (rounds_permute n (map but_last lists) (shorter n lists most)))

pub dealt_permutes : {X : Type 0} (lists : List (List X))
    → IsPermutation (flat_map (λ items. items) lists) (dealt lists)
dealt_permutes lists = rounds_permute (longest lists) lists (omega arith)

-- items are within themselves
within_itself : {X : Type 0} (xs : List X) → IsWithin xs xs
within_itself [] = tt
within_itself (x ∷ xs) = inl (refl, within_itself xs)

-- no item is within all
within_none : {X : Type 0} (ys : List X) → IsWithin [] ys
within_none ys = tt

-- what comes before changes nothing
within_after : {X : Type 0} (xs before ys : List X) → IsWithin xs ys → IsWithin xs (before ++ ys)
within_after [] before ys is = tt
within_after (x ∷ xs) [] ys is = is
within_after (x ∷ xs) (y ∷ before) ys is = inr (within_after (x ∷ xs) before ys is)

-- one part within one part, and one within the next
pub within_parts : {X : Type 0} (xs us ys vs : List X) → IsWithin xs ys → IsWithin us vs
    → IsWithin (xs ++ us) (ys ++ vs)
within_parts [] us ys vs first second = within_after us ys vs second
within_parts (x ∷ xs) us [] vs first second = absurd first
within_parts (x ∷ xs) us (y ∷ ys) vs (inl is) second =
    inl (is.0, within_parts xs us ys vs is.1 second)
within_parts (x ∷ xs) us (y ∷ ys) vs (inr is) second =
    inr (within_parts (x ∷ xs) us ys vs is second)

-- nor does what comes after
within_before : {X : Type 0} (xs ys after : List X) → IsWithin xs ys → IsWithin xs (ys ++ after)
within_before xs ys after is =
    subst (λ us. IsWithin us (ys ++ after)) (append-nil xs)
    (within_parts xs [] ys after is (within_none after))

-- more after what each is within
each_before : {X : Type 0} (part : List X → List X) (ys after : List X) (lists : List (List X))
    → AllByRecursion (λ items. IsWithin (part items) ys) lists
    → AllByRecursion (λ items. IsWithin (part items) (ys ++ after)) lists
each_before part ys after [] all = tt
each_before part ys after (items ∷ others) all =
    (within_before (part items) ys after all.0, each_before part ys after others all.1)

-- the last of each is within a round
pub lasts_within : {X : Type 0} (lists : List (List X))
    → AllByRecursion (λ items. IsWithin (last_of 1 items) (lasts lists)) lists
lasts_within [] = tt
lasts_within (items ∷ others) = (
  within_after (last_of 1 items) (lasts others) (last_of 1 items)
      (within_itself (last_of 1 items)),
  each_before (last_of 1) (lasts others) (last_of 1 items) others (lasts_within others),
)

-- each list by its two parts
each_parts : {X : Type 0} (ys vs : List X) (lists : List (List X))
    → AllByRecursion (λ items. IsWithin items ys) (map but_last lists)
    → AllByRecursion (λ items. IsWithin (last_of 1 items) vs) lists
    → AllByRecursion (λ items. IsWithin items (ys ++ vs)) lists
each_parts ys vs [] first second = tt
each_parts ys vs (items ∷ others) first second = (
  subst (λ xs. IsWithin xs (ys ++ vs)) (parted items)
      (within_parts (but_last items) (last_of 1 items) ys vs first.0 second.0),
  each_parts ys vs others first.1 second.1,
)

-- lists without an item are within all
none_within : {X : Type 0} (ys : List X) (lists : List (List X)) → longest lists ≤ 0
    → AllByRecursion (λ items. IsWithin items ys) lists
none_within ys [] most = tt
none_within ys (items ∷ others) most = (
  subst (λ xs. IsWithin xs ys) (sym (nil_from_length items (omega (arith, most))))
      (within_none ys),
  none_within ys others (omega (arith, most)),
)

rounds_within : {X : Type 0} (n : ℕ) (lists : List (List X)) → longest lists ≤ n
    → AllByRecursion (λ items. IsWithin items (rounds n lists)) lists
rounds_within zero lists most = none_within [] lists most
rounds_within (suc n) lists most =
    each_parts (rounds n (map but_last lists)) (lasts lists) lists
    (rounds_within n (map but_last lists) (shorter n lists most)) (lasts_within lists)

pub dealt_within : {X : Type 0} (lists : List (List X))
    → AllByRecursion (λ items. IsWithin items (dealt lists)) lists
dealt_within lists = rounds_within (longest lists) lists (omega arith)
