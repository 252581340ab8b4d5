-- The newest of each list are at the end of what is dealt.
use Rattle.std.proofs.Common.{◌≡◌, ◌∙◌, ap, sym, subst, arith, ◌+◌, ◌-◌, ◌*◌, ◌≤◌, ℕ, zero, suc}
use Rattle.std.proofs.Common.{List, [], ◌∷◌, ◌++◌, length, map, drop, append_assoc}
use Rattle.std.specs.List.{AllByRecursion}
use Rattle.std.proofs.Math.Nat.{suc-mul}
use Rattle.std.proofs.lemmas.List.{append-nil, drop-append-le, drop_all, length-append}
use Rattle.std.proofs.lemmas.List.{length-drop, length-map, length-take}
use Rattle.std.proofs.lemmas.List.Elements.{All-from_recursion}
use Rattle.news_terms.specs.Ring.{last_of}
use Rattle.found_again.specs.Dealing.{HasNewest, IsWithin, but_last, dealt, lasts, longest, rounds}
use Rattle.found_again.proofs.DealtLemmas.{lasts_within, parted, within_parts}

-- what earlier rounds give comes before
older_rounds : {X : Type 0} (k m : ℕ) (lists : List (List X))
    → (older : List X) × (rounds (m + k) lists ≡ older ++ rounds k lists)
older_rounds zero m lists =
    let none : m + 0 ≡ m = omega arith in
    (rounds m lists, ap (λ n. rounds n lists) none ∙ sym (append-nil (rounds m lists)))
older_rounds (suc k) m lists =
    let before = older_rounds k m (map but_last lists) in
    let more : m + suc k ≡ suc (m + k) = omega arith in (
      before.0,
      ap (λ n. rounds n lists) more
          ∙ ap (λ xs. xs ++ lasts lists) before.1
          ∙ append_assoc before.0 (rounds k (map but_last lists)) (lasts lists),
    )

-- the last of each are no more than there are lists
few_lasts : {X : Type 0} (lists : List (List X)) → length (lasts lists) ≤ length lists
few_lasts [] = omega arith
few_lasts (items ∷ others) =
    let rest : length (lasts others) ≤ length others = few_lasts others in
    omega (
      arith,
      rest,
      length-append (lasts others) (last_of 1 items),
      length-drop (length items - 1) items,
    )

-- so many rounds give so many of each list at most
few_rounds : {X : Type 0} (k : ℕ) (lists : List (List X))
    → length (rounds k lists) ≤ k * length lists
few_rounds zero lists = omega arith
few_rounds (suc k) lists =
    let fronts : length (rounds k (map but_last lists)) ≤ k * length lists =
    subst (λ n. length (rounds k (map but_last lists)) ≤ k * n) (length-map lists but_last)
    (few_rounds k (map but_last lists)) in
    omega (
      arith,
      fronts,
      few_lasts lists,
      suc-mul k (length lists),
      length-append (rounds k (map but_last lists)) (lasts lists),
    )

-- the last of a list are the last of its front, and its last
last_parts : {X : Type 0} (k : ℕ) (items : List X)
    → last_of k (but_last items) ++ last_of 1 items ≡ last_of (suc k) items
last_parts k items =
    let place : length (but_last items) - k ≡ length items - suc k =
    omega (arith, length-take (length items - 1) items) in
    ap (λ n. drop n (but_last items) ++ last_of 1 items) place
    ∙ sym (drop-append-le (length items - suc k) (but_last items) (last_of 1 items)
    (omega (arith, length-take (length items - 1) items)))
    ∙ ap (drop (length items - suc k)) (parted items)

-- each by the last of its front, and its last
each_ends : {X : Type 0} (k : ℕ) (ys vs : List X) (lists : List (List X))
    → AllByRecursion (λ items. IsWithin (last_of k items) ys) (map but_last lists)
    → AllByRecursion (λ items. IsWithin (last_of 1 items) vs) lists
    → AllByRecursion (λ items. IsWithin (last_of (suc k) items) (ys ++ vs)) lists
each_ends k ys vs [] first second = tt
each_ends k ys vs (items ∷ others) first second = (
  subst (λ xs. IsWithin xs (ys ++ vs)) (last_parts k items)
      (within_parts (last_of k (but_last items)) (last_of 1 items) ys vs first.0 second.0),
  each_ends k ys vs others first.1 second.1,
)

-- no item of each is within no rounds
none_of_each : {X : Type 0} (lists : List (List X))
    → AllByRecursion (λ items. IsWithin (last_of 0 items) []) lists
none_of_each [] = tt
none_of_each (items ∷ others) = (
  subst (λ xs. IsWithin xs []) (sym (drop_all (length items - 0) items (omega arith))) tt,
  none_of_each others,
)

-- so many rounds give so many of the newest of each
newest_within : {X : Type 0} (k : ℕ) (lists : List (List X))
    → AllByRecursion (λ items. IsWithin (last_of k items) (rounds k lists)) lists
newest_within zero lists = none_of_each lists
newest_within (suc k) lists =
    each_ends k (rounds k (map but_last lists)) (lasts lists) lists
    (newest_within k (map but_last lists)) (lasts_within lists)

-- and those are the end of what is dealt
pub has_newest : {X : Type 0} (lists : List (List X)) (k : ℕ) → k ≤ longest lists
    → HasNewest k lists (dealt lists)
has_newest lists k within =
    let before = older_rounds k (longest lists - k) lists in
    let all : longest lists ≡ longest lists - k + k = omega (arith, within) in
    record {
      older = before.0;
      newest = rounds k lists;
      is = ap (λ n. rounds n lists) all ∙ before.1;
      few = few_rounds k lists;
      each = All-from_recursion (λ items. IsWithin (last_of k items) (rounds k lists)) lists
          (newest_within k lists);
    }
