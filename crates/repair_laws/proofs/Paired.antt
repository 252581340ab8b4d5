-- Lists that go together, item by item: in another order of the one the other goes with it in some
-- order of its own.
use Rattle.std.proofs.Common.{◌≡◌, ◌∙◌, ℕ, refl, sym, ap, subst, List, [], ◌∷◌, map, length, get_or}
use Rattle.std.proofs.Common.{set, IsPermutation, All}
use Rattle.std.proofs.Math.ListN.{get_or-map}
use Rattle.std.proofs.lemmas.List.{length-map, map-set}
use Rattle.std.proofs.lemmas.List.Elements.{All-cons, All-head, All-nil, All-tail}
use Rattle.std.proofs.lemmas.List.Sorted.{All-permutation, IsPermutation-map}
use Rattle.std.specs.List.{AllZip, swap}
use Rattle.std.specs.List.Sorted.{SwapsInRange, apply_swaps}

-- an exchange of mapped items is that of the items
map-swap : {X Y : Type 0} (f : X → Y) (xs : List X) (i j : ℕ)
    → map f (swap xs i j) ≡ swap (map f xs) i j
map-swap f [] i j = refl
map-swap {X} {Y} f (d ∷ ys) i j =
    map-set f (set (d ∷ ys) i (get_or (d ∷ ys) j d)) j (get_or (d ∷ ys) i d)
    ∙ ap (λ (l : List Y). set l j (f (get_or (d ∷ ys) i d)))
    (map-set f (d ∷ ys) i (get_or (d ∷ ys) j d)
    ∙ ap (set (map f (d ∷ ys)) i) (sym (get_or-map f (d ∷ ys) j d)))
    ∙ ap (set (set (map f (d ∷ ys)) i (get_or (map f (d ∷ ys)) j (f d))) j)
    (sym (get_or-map f (d ∷ ys) i d))

-- and so are several
map-swaps : {X Y : Type 0} (f : X → Y) (xs : List X) (moves : List (ℕ × ℕ))
    → map f (apply_swaps xs moves) ≡ apply_swaps (map f xs) moves
map-swaps f xs [] = refl
map-swaps {X} {Y} f xs (move ∷ moves) =
    map-swap f (apply_swaps xs moves) move.0 move.1
    ∙ ap (λ (l : List Y). swap l move.0 move.1) (map-swaps f xs moves)

module _ {A B : Type 0} (R : A → B → Type 0) where
  -- the two of a pair go together
  abbrev AreTogether : A × B → Type 0
  AreTogether p = R p.0 p.1

  -- the first of a pair
  abbrev first_of_pair : A × B → A
  first_of_pair p = p.0

  -- and the second
  abbrev second_of_pair : A × B → B
  second_of_pair p = p.1

  -- two lists that go together, as pairs
  record HasPairs (xs : List A) (ys : List B) : Type 0 where
    pairs : List (A × B)
    firsts : map first_of_pair pairs ≡ xs
    seconds : map second_of_pair pairs ≡ ys
    each : All AreTogether pairs

  -- so they are
  pairs_of : (xs : List A) (ys : List B) → AllZip R xs ys → HasPairs xs ys
  pairs_of [] [] are = record {
    pairs = [];
    firsts = refl;
    seconds = refl;
    each = All-nil AreTogether;
  }
  pairs_of [] (y ∷ ys) are = absurd are
  pairs_of (x ∷ xs) [] are = absurd are
  pairs_of (x ∷ xs) (y ∷ ys) are =
      let rest = pairs_of xs ys are.1 in
      record {
        pairs = (x, y) ∷ rest.pairs;
        firsts = ap (λ (l : List A). x ∷ l) rest.firsts;
        seconds = ap (λ (l : List B). y ∷ l) rest.seconds;
        each = All-cons AreTogether (x, y) rest.pairs are.0 rest.each;
      }

  -- and back
  zip_of : (pairs : List (A × B)) → All AreTogether pairs
      → AllZip R (map first_of_pair pairs) (map second_of_pair pairs)
  zip_of [] all = tt
  zip_of (p ∷ later) all = (
    All-head AreTogether p later all,
    zip_of later (All-tail AreTogether p later all),
  )

  -- in some order of the other list, it goes with another order of the one
  pub record GoesWith (ys : List A) (zs : List B) : Type 0 where
    pub others : List B
    pub order : IsPermutation zs others
    pub together : AllZip R ys others

  -- so it does, where the one goes with the other
  pub permuted_zip : (xs ys : List A) (zs : List B) → IsPermutation xs ys → AllZip R xs zs
      → GoesWith ys zs
  permuted_zip xs ys zs order are =
      let p = pairs_of xs zs are in
      let moved : List (A × B) = apply_swaps p.pairs order.moves in
      let long : length xs ≡ length p.pairs =
      ap length (sym p.firsts) ∙ length-map p.pairs first_of_pair in
      let pairs_order : IsPermutation p.pairs moved = record {
        moves = order.moves;
        below = subst (λ n. SwapsInRange n order.moves) long order.below;
        is = refl;
      } in
      let firsts : map first_of_pair moved ≡ ys =
      map-swaps first_of_pair p.pairs order.moves
      ∙ ap (λ (l : List A). apply_swaps l order.moves) p.firsts ∙ sym order.is in
      record {
        others = map second_of_pair moved;
        order = subst (λ (l : List B). IsPermutation l (map second_of_pair moved)) p.seconds
            (IsPermutation-map second_of_pair p.pairs moved pairs_order);
        together = subst (λ (l : List A). AllZip R l (map second_of_pair moved)) firsts
            (zip_of moved (All-permutation AreTogether p.pairs moved pairs_order p.each));
      }
