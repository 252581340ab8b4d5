-- Lists whose items belong together, one item after the other.
use Rattle.std.proofs.Common.{◌≡◌, ◌∙◌, ℕ, ◌+◌, ◌≤◌, arith, refl, sym, ap, subst, List, [], ◌∷◌}
use Rattle.std.proofs.Common.{◌++◌, length, map, take, Some, slice_get, option_map, append_assoc}
use Rattle.std.proofs.Common.{append-nil}
use Rattle.std.proofs.lemmas.List.{length-append, length-map, length-take-le, map-append}
use Rattle.std.proofs.lemmas.List.{nil_from_length, take_all, take_more}
use Rattle.std.proofs.lemmas.Option.{get_or_from_slice_get, none-some, same_Some, slice_get-map}
use Rattle.std.proofs.lemmas.Option.{slice_get_within}
use Rattle.news_terms.proofs.ListPlaces.{next_behind, there_within}
use Rattle.block_shelf.proofs.NewBufferSet.{push_both}
use Rattle.block_shelf.specs.Each.{AreEach}

-- no items belong together
pub none_each : {X Y : Type 0} (Belong : ℕ → X → Y → Type 0) → AreEach Belong [] []
none_each Belong = record { count = refl; each = λ b x is. absurd (none-some x is) }

-- one item more of each list
pub one_more_each : {X Y : Type 0} (Belong : ℕ → X → Y → Type 0) (xs : List X) (ys : List Y) (x : X)
    (y : Y) → AreEach Belong xs ys → Belong (length xs) x y
    → AreEach Belong (xs ++ x ∷ []) (ys ++ y ∷ [])
one_more_each Belong xs ys x y are belongs = record {
  count = simp length-append (omega (arith, are.count));
  each = λ b one is.
      let now = push_both Belong xs ys x y are.count b one
      (λ at. let had = are.each b one at in (had.item, had.there, had.belongs)) belongs is in
      record { item = now.0; there = now.1; belongs = now.2 };
}

-- items that belong together in one way do so in another that follows, the second made of each
pub each_mapped : {X Y Z : Type 0} (P : ℕ → X → Y → Type 0) (Q : ℕ → X → Z → Type 0) (f : Y → Z)
    (xs : List X) (ys : List Y) → AreEach P xs ys
    → ((b : ℕ) (x : X) (y : Y) → slice_get xs b ≡ Some x → P b x y → Q b x (f y))
    → AreEach Q xs (map f ys)
each_mapped P Q f xs ys are so = record {
  count = length-map ys f ∙ are.count;
  each = λ b x is.
      let was = are.each b x is in
      record {
        item = f was.item;
        there = slice_get-map f ys b ∙ ap (option_map f) was.there;
        belongs = so b x was.item is was.belongs;
      };
}

-- in another way that follows
pub each_so : {X Y : Type 0} {P Q : ℕ → X → Y → Type 0} {xs : List X} {ys : List Y}
    → AreEach P xs ys
    → ((b : ℕ) (x : X) (y : Y) → slice_get xs b ≡ Some x → slice_get ys b ≡ Some y → P b x y
    → Q b x y)
    → AreEach Q xs ys
each_so are so = record {
  count = are.count;
  each = λ b x is.
      let was = are.each b x is in
      record {
        item = was.item;
        there = was.there;
        belongs = so b x was.item is was.there was.belongs;
      };
}

-- what an item of the second list belongs to
pub record ComesFrom {X Y : Type 0} (P : ℕ → X → Y → Type 0) (xs : List X) (b : ℕ) (y : Y) : Type 0
  where
    pub item : X
    pub there : slice_get xs b ≡ Some item
    pub belongs : P b item y

-- an item of the second list comes from the one there in the first
pub comes_from : {X Y : Type 0} (P : ℕ → X → Y → Type 0) (xs : List X) (ys : List Y)
    → AreEach P xs ys → (b : ℕ) (y : Y) → slice_get ys b ≡ Some y → ComesFrom P xs b y
comes_from P xs ys are b y is =
    let one = there_within xs b (omega (arith, slice_get_within ys b y is, are.count)) in
    let at = are.each b one.0 one.1 in
    record {
      item = one.0;
      there = one.1;
      belongs = subst (λ each. P b one.0 each) (same_Some at.item y (sym at.there ∙ is)) at.belongs;
    }

-- what is made of each item, once one more is put behind the others
pub made_more : {X Y : Type 0} (f : X → Y) (room : List Y) (xs : List X) (x : X) (old new : List Y)
    (y : Y) → old ≡ room ++ map f xs → new ≡ old ++ y ∷ [] → y ≡ f x
    → new ≡ room ++ map f (xs ++ x ∷ [])
made_more f room xs x old new y was is made = simp (is, was, made, map-append, append_assoc)

-- all were gone through where nothing is left
pub all_through : {X : Type 0} (through left all : List X) → through ++ left ≡ all → left ≡ []
    → through ≡ all
all_through through left all is none =
    sym (append-nil through) ∙ ap (λ rest. through ++ rest) (sym none) ∙ is

-- one more is gone through
pub one_through : {X : Type 0} (through left all : List X) (x : X) (more : List X)
    → through ++ left ≡ all → left ≡ x ∷ more → (through ++ x ∷ []) ++ more ≡ all
one_through through left all x more is next =
    append_assoc through (x ∷ []) more ∙ ap (λ rest. through ++ rest) (sym next) ∙ is

-- it stands behind those before it
pub here_through : {X : Type 0} (through left all : List X) (x : X) (more : List X)
    → through ++ left ≡ all → left ≡ x ∷ more → slice_get all (length through) ≡ Some x
here_through through left all x more is next =
    ap (λ items. slice_get items (length through))
    (sym is ∙ ap (λ rest. through ++ rest) next)
    ∙ next_behind through x more

-- as many were gone through as there are, with one more
pub count_through : {X : Type 0} (through left all : List X) (x : X) (more : List X)
    → through ++ left ≡ all → left ≡ x ∷ more → length through + 1 + length more ≡ length all
count_through through left all x more is next =
    omega (
      arith,
      ap length is,
      ap length next,
      length-append through left,
    )

-- all were gone through where the rest has no length
pub none_left : {X : Type 0} (through left : List X) {all : List X} → through ++ left ≡ all
    → length left ≡ 0 → through ≡ all
none_left through left {all} is none = all_through through left all is (nil_from_length left none)

-- one item more of the front of a list, as it is read, and one of the other list
pub one_read : {X Y : Type 0} {Belong : ℕ → X → Y → Type 0} (xs : List X) (k : ℕ) {x : X}
    (ys : List Y) {y : Y} → AreEach Belong (take k xs) ys → slice_get xs k ≡ Some x → Belong k x y
    → AreEach Belong (take (k + 1) xs) (ys ++ y ∷ [])
one_read {Belong = Belong} xs k {x} ys {y} are there belongs =
    let within = slice_get_within xs k x there in
    rw (take_more xs k x within, get_or_from_slice_get xs k x x there)
    (one_more_each Belong (take k xs) ys x y are
    (rw (length-take-le k xs (omega (arith, within))) belongs))

-- past the end of the list it is all of it
pub all_read : {X Y : Type 0} {Belong : ℕ → X → Y → Type 0} (xs : List X) (k : ℕ) {ys : List Y}
    → AreEach Belong (take k xs) ys → length xs ≤ k → AreEach Belong xs ys
all_read xs k are past = rw (take_all k xs past) at are
