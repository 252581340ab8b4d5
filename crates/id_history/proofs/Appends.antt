-- What is written behind what was there.
use Rattle.std.proofs.Common.{◌≡◌, ◌∙◌, ◌<◌, ◌≤◌, ◌+◌, ap, sym, subst, ℕ, List, [], ◌∷◌, ◌++◌}
use Rattle.std.proofs.Common.{length, map, take, append_assoc}
use Rattle.std.proofs.Math.ListN.{get_or}
use Rattle.std.proofs.lemmas.List.{append-nil, map_push, take_more, take_all}
use Rattle.std.proofs.lemmas.List.Concat.{flat_map-append}
use Rattle.std.specs.List.{AllByRecursion, flat_map}

-- one more that holds
pub holds_push : {X : Type 0} (F : X → Type 0) (xs : List X) (x : X) → AllByRecursion F xs → F x
    → AllByRecursion F (xs ++ x ∷ [])
holds_push F [] x so_far one = (one, tt)
holds_push F (y ∷ ys) x so_far one = (so_far.0, holds_push F ys x so_far.1 one)

module _ {A B : Type 0} (octets : B → List ℕ) (F : B → Type 0) (view : A → B) where
  -- so many of a list were written behind what was there, and each has room
  pub record IsPut (before now : List ℕ) (xs : List A) (i : ℕ) : Type 0 where
    pub written : now ≡ before ++ flat_map octets (map view (take i xs))
    pub fits : AllByRecursion F (map view (take i xs))

  -- none was written yet
  pub none_put : (before : List ℕ) (xs : List A) → IsPut before before xs 0
  none_put before xs = record { written = sym (append-nil before); fits = tt }

  -- one more was written
  pub one_put : (before now after : List ℕ) (xs : List A) (i : ℕ) (x : A) → i < length xs
      → x ≡ get_or xs i x → IsPut before now xs i → after ≡ now ++ octets (view x) → F (view x)
      → IsPut before after xs (i + 1)
  one_put before now after xs i x there at so_far one fits =
      let next : take (i + 1) xs ≡ take i xs ++ x ∷ [] =
      take_more xs i x there ∙ ap (λ (y : A). take i xs ++ y ∷ []) (sym at) in
      let views : map view (take i xs) ++ view x ∷ [] ≡ map view (take (i + 1) xs) =
      sym (map_push view (take i xs) x) ∙ ap (map view) (sym next) in
      let past = flat_map octets (map view (take i xs)) in
      record {
        written = one ∙ ap (λ (o : List ℕ). o ++ octets (view x)) so_far.written
            ∙ append_assoc before past (octets (view x))
            ∙ ap (λ (o : List ℕ). before ++ o)
            (ap (λ (o : List ℕ). past ++ o) (sym (append-nil (octets (view x))))
            ∙ sym (flat_map-append octets (map view (take i xs)) (view x ∷ []))
            ∙ ap (flat_map octets) views);
        fits = subst (AllByRecursion F) views
            (holds_push F (map view (take i xs)) (view x) so_far.fits fits);
      }

  -- all were written
  pub all_put : (before now : List ℕ) (xs : List A) (i : ℕ) → length xs ≤ i
      → IsPut before now xs i → (now ≡ before ++ flat_map octets (map view xs))
      × AllByRecursion F (map view xs)
  all_put before now xs i past so_far =
      let all = take_all i xs past in (
        so_far.written ∙ ap (λ (ys : List A). before ++ flat_map octets (map view ys)) all,
        subst (λ (ys : List A). AllByRecursion F (map view ys)) all so_far.fits,
      )

-- one after the other behind what was there
pub behind : (was x y : List ℕ) {then now : List ℕ} → then ≡ was ++ x → now ≡ then ++ y
    → now ≡ was ++ (x ++ y)
behind was x y first next = next ∙ ap (λ (o : List ℕ). o ++ y) first ∙ append_assoc was x y
