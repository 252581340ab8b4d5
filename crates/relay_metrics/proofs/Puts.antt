-- Texts that are put one behind the other.
use Rattle.std.proofs.Common.{◌≡◌, ◌∙◌, ◌++◌, ◌∷◌, [], ◌+◌, ◌<◌, ◌≤◌, ℕ, List, ap, sym}
use Rattle.std.proofs.Common.{append_assoc}
use Rattle.std.proofs.Common.{append-nil, flat_map, get_or, length, map, take}
use Rattle.std.proofs.lemmas.Grind.{flat_map-append}
use Rattle.std.proofs.lemmas.List.{map_push, take_all, take_more}

module _ {A : Type 0} (text : A → List ℕ) where
  -- the text of one more stands behind those of so many
  pub one_more : (before now after : List ℕ) (xs : List A) (i : ℕ) (x : A) → i < length xs
      → now ≡ before ++ flat_map text (take i xs) → after ≡ now ++ text (get_or xs i x)
      → after ≡ before ++ flat_map text (take (i + 1) xs)
  one_more before now after xs i x there so_far one =
      let past = flat_map text (take i xs) in
      let last = get_or xs i x in
      let all : past ++ text last ≡ flat_map text (take (i + 1) xs) =
      ap (λ (o : List ℕ). past ++ o) (sym (append-nil (text last)))
      ∙ sym (flat_map-append text (take i xs) (last ∷ []))
      ∙ ap (flat_map text) (sym (take_more xs i x there)) in
      one ∙ ap (λ (o : List ℕ). o ++ text last) so_far ∙ append_assoc before past (text last)
      ∙ ap (λ (o : List ℕ). before ++ o) all

  -- behind the last stand those of all
  pub all_of : (before now : List ℕ) (xs : List A) (i : ℕ) → length xs ≤ i
      → now ≡ before ++ flat_map text (take i xs) → now ≡ before ++ flat_map text xs
  all_of before now xs i past so_far =
      so_far ∙ ap (λ (ys : List A). before ++ flat_map text ys) (take_all i xs past)

module _ {A B : Type 0} (text : B → List ℕ) (view : A → B) where
  -- so it is where a text is of what an element stands for
  pub one_viewed : (before now after : List ℕ) (xs : List A) (i : ℕ) (x : A) → i < length xs
      → now ≡ before ++ flat_map text (map view (take i xs))
      → after ≡ now ++ text (view (get_or xs i x))
      → after ≡ before ++ flat_map text (map view (take (i + 1) xs))
  one_viewed before now after xs i x there so_far one =
      let past = flat_map text (map view (take i xs)) in
      let last = get_or xs i x in
      let all : past ++ text (view last) ≡ flat_map text (map view (take (i + 1) xs)) =
      ap (λ (o : List ℕ). past ++ o) (sym (append-nil (text (view last))))
      ∙ sym (flat_map-append text (map view (take i xs)) (view last ∷ []))
      ∙ ap (flat_map text) (sym (map_push view (take i xs) last)
      ∙ ap (map view) (sym (take_more xs i x there))) in
      one ∙ ap (λ (o : List ℕ). o ++ text (view last)) so_far
      ∙ append_assoc before past (text (view last)) ∙ ap (λ (o : List ℕ). before ++ o) all

  pub all_viewed : (before now : List ℕ) (xs : List A) (i : ℕ) → length xs ≤ i
      → now ≡ before ++ flat_map text (map view (take i xs))
      → now ≡ before ++ flat_map text (map view xs)
  all_viewed before now xs i past so_far =
      so_far ∙ ap (λ (ys : List A). before ++ flat_map text (map view ys)) (take_all i xs past)
