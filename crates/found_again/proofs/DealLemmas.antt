-- One round of a deal, and all of them.
use Rattle.std.proofs.Common.{◌≡◌, ◌∙◌, ap, sym, refl, arith, ◌+◌, ◌-◌, ◌<◌, ◌≤◌, ℕ, suc, List, []}
use Rattle.std.proofs.Common.{◌∷◌, ◌++◌, length, map, take, drop, append_assoc}
use Rattle.std.proofs.Common.{◌==◌, Bool, true, false, cond, inl, inr, not, zero}
use Rattle.std.specs.Prelude.{filter, reverse, flat_map}
use Rattle.std.specs.List.{AllByRecursion}
use Rattle.std.proofs.Math.ListN.{get_or, set}
use Rattle.std.proofs.lemmas.Bool.{false≢true}
use Rattle.std.proofs.lemmas.Bool.Decides.{eqb_tells}
use Rattle.std.proofs.lemmas.List.Elements.{filter_agree}
use Rattle.std.proofs.lemmas.List.{append-nil, reverse-append, length-drop, length-append}
use Rattle.std.proofs.lemmas.List.{length-take-le, length-map, take_at, drop_at, drop_more}
use Rattle.std.proofs.lemmas.List.{set_at, get_or_at, map_more, take_more, flat_map_more}
use Rattle.std.proofs.lemmas.List.{take_all, drop_all, length-take, nil_from_length}
use Rattle.news_terms.specs.Ring.{last_of}
use Rattle.found_again.specs.Dealing.{but_last, lasts, rounds}

-- a list of one item at most is its own reverse
short_reverse : {X : Type 0} (xs : List X) → length xs ≤ 1 → reverse xs ≡ xs
short_reverse [] few = refl
short_reverse (x ∷ []) few = refl
short_reverse (x ∷ y ∷ xs) few = absurd (omega (arith, few))

-- what each gives in turn, reversed, are the last of each
reversed_lasts : {X : Type 0} (lists : List (List X))
    → reverse (flat_map (last_of 1) lists) ≡ lasts lists
reversed_lasts [] = refl
reversed_lasts (items ∷ others) =
    reverse-append (last_of 1 items) (flat_map (last_of 1) others)
    ∙ ap (λ xs. xs ++ reverse (last_of 1 items)) (reversed_lasts others)
    ∙ ap (λ xs. lasts others ++ xs) (short_reverse (last_of 1 items)
    (omega (arith, length-drop (length items - 1) items)))

-- one round more is dealt
pub round_more : {X : Type 0} (n : ℕ) (lists left : List (List X)) (given more : List X)
    → left ≡ map but_last lists → more ≡ given ++ flat_map (last_of 1) lists
    → rounds n left ++ reverse more ≡ rounds (suc n) lists ++ reverse given
round_more n lists left given more are is =
    ap (λ xs. rounds n xs ++ reverse more) are
    ∙ ap (λ xs. rounds n (map but_last lists) ++ xs)
    (ap reverse is ∙ reverse-append given (flat_map (last_of 1) lists)
    ∙ ap (λ xs. xs ++ reverse given) (reversed_lasts lists))
    ∙ sym (append_assoc (rounds n (map but_last lists)) (lasts lists) (reverse given))

-- the last was given by a list that had one
pub given_last : {X : Type 0} (items left : List X) (x : X) → items ≡ left ++ x ∷ []
    → last_of 1 items ≡ x ∷ []
given_last items left x is =
    ap (last_of 1) is
    ∙ drop_at left (x ∷ []) (length (left ++ x ∷ []) - 1)
    (omega (arith, length-append left (x ∷ [])))

pub left_last : {X : Type 0} (items left : List X) (x : X) → items ≡ left ++ x ∷ []
    → left ≡ but_last items
left_last items left x is =
    sym (ap but_last is
    ∙ take_at left (x ∷ []) (length (left ++ x ∷ []) - 1)
    (omega (arith, length-append left (x ∷ []))))

-- so far each list has given its last, and the others are as they were
pub record HaveGiven {X : Type 0} (lists now : List (List X)) (k : ℕ) : Type 0 where
  pub are : now ≡ map but_last (take k lists) ++ drop k lists

-- none has
pub given_none : {X : Type 0} (lists : List (List X)) → HaveGiven lists lists 0
given_none lists = record { are = refl }

-- so many have
length_given : {X : Type 0} (lists : List (List X)) (k : ℕ) → k ≤ length lists
    → length (map but_last (take k lists)) ≡ k
length_given lists k within =
    length-map (take k lists) but_last ∙ length-take-le k lists within

-- the next still has all
pub next_has : {X : Type 0} (lists now : List (List X)) (k : ℕ) → k < length lists
    → HaveGiven lists now k → get_or now k [] ≡ get_or lists k []
next_has lists now k within given =
    ap (λ xs. get_or xs k []) (given.are
    ∙ ap (λ xs. map but_last (take k lists) ++ xs) (drop_more lists k [] within))
    ∙ get_or_at (map but_last (take k lists)) (get_or lists k []) (drop (k + 1) lists) [] k
    (length_given lists k (omega (arith, within)))

-- one more has given its last
pub given_more : {X : Type 0} (lists now : List (List X)) (k : ℕ) (left : List X)
    → k < length lists → left ≡ but_last (get_or lists k []) → HaveGiven lists now k
    → HaveGiven lists (set now k left) (k + 1)
given_more lists now k left within is given =
    record {
      are = ap (λ xs. set xs k left) (given.are
          ∙ ap (λ xs. map but_last (take k lists) ++ xs) (drop_more lists k [] within))
          ∙ set_at (map but_last (take k lists)) (get_or lists k []) (drop (k + 1) lists) left k
          (length_given lists k (omega (arith, within)))
          ∙ ap (λ x. map but_last (take k lists) ++ x ∷ drop (k + 1) lists) is
          ∙ sym (append_assoc (map but_last (take k lists))
          (but_last (get_or lists k []) ∷ []) (drop (k + 1) lists))
          ∙ ap (λ xs. xs ++ drop (k + 1) lists) (sym (map_more but_last lists k [] within));
    }

-- all have
pub given_all : {X : Type 0} (lists now : List (List X)) (k : ℕ) → length lists ≤ k
    → HaveGiven lists now k → now ≡ map but_last lists
given_all lists now k past given =
    given.are
    ∙ ap (λ xs. map but_last xs ++ drop k lists) (take_all k lists past)
    ∙ ap (λ xs. map but_last lists ++ xs) (drop_all k lists past)
    ∙ append-nil (map but_last lists)

-- what one more gives comes after what was given
pub gives_more : {X : Type 0} (before : List X) (lists : List (List X)) (k : ℕ) (given : List X)
    → k < length lists → given ≡ last_of 1 (get_or lists k [])
    → (before ++ flat_map (last_of 1) (take k lists)) ++ given
    ≡ before ++ flat_map (last_of 1) (take (k + 1) lists)
gives_more before lists k given within is =
    ap (λ xs. (before ++ flat_map (last_of 1) (take k lists)) ++ xs) is
    ∙ flat_map_more (last_of 1) before (take k lists) (get_or lists k [])
    ∙ ap (λ xs. before ++ flat_map (last_of 1) xs) (sym (take_more lists k [] within))

-- a list that gave none had none
pub none_given : {X : Type 0} (items left : List X) → items ≡ left ++ [] → left ≡ but_last items
    → last_of 1 items ≡ []
none_given items left is front =
    let same : length items ≡ length left = ap length (is ∙ append-nil left) in
    let few : length left ≡ length (take (length items - 1) items) = ap length front in
    ap (last_of 1) (nil_from_length items
    (omega (arith, same, few, length-take (length items - 1) items)))

-- there are as many lists as there were
pub same_count : {X : Type 0} (lists now : List (List X)) (k : ℕ) → k ≤ length lists
    → HaveGiven lists now k → length now ≡ length lists
same_count lists now k within given =
    ap length given.are ∙ length-append (map but_last (take k lists)) (drop k lists)
    ∙ omega (arith, within, length_given lists k within, length-drop k lists)

-- with no round to come all is dealt
pub all_dealt : {X : Type 0} (n : ℕ) (left : List (List X)) (newest_first texts all : List X)
    → n ≡ 0 → texts ≡ reverse newest_first → rounds n left ++ reverse newest_first ≡ all
    → texts ≡ all
all_dealt n left newest_first texts all none is so_far =
    is ∙ sym (ap (λ (m : ℕ). rounds m left ++ reverse newest_first) none) ∙ so_far

-- lists that are shown by a function, joined
pub joined_map : {X Y : Type 0} (f : X → List Y) (xs : List X)
    → flat_map (λ (items : List Y). items) (map f xs) ≡ flat_map f xs
joined_map f [] = refl
joined_map f (x ∷ xs) = ap (λ ys. f x ++ ys) (joined_map f xs)

-- what holds of each that is shown
pub each_shown : {X Y : Type 0} (P : Y → Type 0) (f : X → Y) (xs : List X)
    → AllByRecursion P (map f xs) → AllByRecursion (λ x. P (f x)) xs
each_shown P f [] all = tt
each_shown P f (x ∷ xs) all = (all.0, each_shown P f xs all.1)

-- a list that has an item
abbrev pub is_full : {X : Type 0} → List X → Bool
is_full [] = false
is_full (x ∷ items) = true

-- it does where its length isn't 0
full_by_length : {X : Type 0} (items : List X) → not (length items == 0) ≡ is_full items
full_by_length [] = refl
full_by_length (x ∷ items) =
    ap not (ltb_apart (length (x ∷ items)) (omega arith))
  where
    ltb_apart : (n : ℕ) → 1 ≤ n → (n == 0) ≡ false
    ltb_apart n some = elim (eqb_tells n 0) [
      | inl same ↦ absurd (omega (arith, some, same.1))
      | inr other ↦ other.0
    ]

-- the lists that have one
abbrev pub full : {X : Type 0} → List (List X) → List (List X)
full lists = filter is_full lists

-- of a list without an item nothing is left
left_empty : {X : Type 0} (items : List X) → is_full items ≡ false → but_last items ≡ []
left_empty [] none = refl
left_empty (x ∷ items) none = absurd (false≢true (sym none))

-- nor does it give one
gives_none : {X : Type 0} (items : List X) → is_full items ≡ false → last_of 1 items ≡ []
gives_none [] none = refl
gives_none (x ∷ items) none = absurd (false≢true (sym none))

-- those that have one give as all do
full_give : {X : Type 0} (lists : List (List X)) → lasts (full lists) ≡ lasts lists
full_give [] = refl
full_give (items ∷ others) = by (is_full items) refl (full_give others)
  where
    by : (is : Bool) → is_full items ≡ is → lasts (full others) ≡ lasts others
        → lasts (cond is (items ∷ full others) (full others)) ≡ lasts others ++ last_of 1 items
    by true at rest = ap (λ xs. xs ++ last_of 1 items) rest
    by false at rest =
        rest ∙ sym (append-nil (lasts others))
        ∙ ap (λ xs. lasts others ++ xs) (sym (gives_none items at))

-- and as much is left of them
full_left : {X : Type 0} (lists : List (List X))
    → full (map but_last (full lists)) ≡ full (map but_last lists)
full_left [] = refl
full_left (items ∷ others) = by (is_full items) refl (full_left others)
  where
    by : (is : Bool) → is_full items ≡ is
        → full (map but_last (full others)) ≡ full (map but_last others)
        → full (map but_last (cond is (items ∷ full others) (full others)))
        ≡ full (but_last items ∷ map but_last others)
    by true at rest =
        ap (λ xs. cond (is_full (but_last items)) (but_last items ∷ xs) xs) rest
    by false at rest =
        rest ∙ sym (ap (λ xs. full (xs ∷ map but_last others)) (left_empty items at))

-- so those that have none can be left out
rounds_full : {X : Type 0} (n : ℕ) (lists : List (List X)) → rounds n (full lists) ≡ rounds n lists
rounds_full zero lists = refl
rounds_full (suc n) lists =
    ap (λ xs. xs ++ lasts (full lists))
    (sym (rounds_full n (map but_last (full lists)))
    ∙ ap (rounds n) (full_left lists)
    ∙ rounds_full n (map but_last lists))
    ∙ ap (λ xs. rounds n (map but_last lists) ++ xs) (full_give lists)

-- lists that are shown by a function, without those that have none
full_shown : {X Y : Type 0} (f : X → List Y) (xs : List X)
    → map f (filter (λ x. is_full (f x)) xs) ≡ full (map f xs)
full_shown f [] = refl
full_shown f (x ∷ xs) = by (is_full (f x)) (full_shown f xs)
  where
    by : (is : Bool) → map f (filter (λ x. is_full (f x)) xs) ≡ full (map f xs)
        → map f (cond is (x ∷ filter (λ x. is_full (f x)) xs) (filter (λ x. is_full (f x)) xs))
        ≡ cond is (f x ∷ full (map f xs)) (full (map f xs))
    by true rest = ap (λ ys. f x ∷ ys) rest
    by false rest = rest

-- the rounds to come give the same without them
pub rounds_shown : {X Y : Type 0} (f : X → List Y) (n : ℕ) (xs kept : List X)
    → kept ≡ filter (λ x. not (length (f x) == 0)) xs
    → rounds n (map f kept) ≡ rounds n (map f xs)
rounds_shown f n xs kept are =
    ap (λ ys. rounds n (map f ys)) (are
    ∙ filter_agree (λ x. not (length (f x) == 0)) (λ x. is_full (f x))
    (λ x. full_by_length (f x)) xs)
    ∙ ap (rounds n) (full_shown f xs)
    ∙ rounds_full n (map f xs)
