-- A list that is gone through from its end.
use Rattle.std.proofs.Common.{◌≡◌, ◌∙◌, ap, sym, refl, List, [], ◌∷◌, ◌++◌, length, take, drop}
use Rattle.std.proofs.Common.{All, append_assoc}
use Rattle.std.proofs.lemmas.List.Elements.{All-drop, All-head, All-same}
use Rattle.std.proofs.lemmas.List.{take-append-drop, take_at, drop_at}

-- what is left is the front of the list
pub record IsFront {X : Type 0} (all left : List X) : Type 0 where
  pub front : take (length left) all ≡ left

-- all is left at first
pub front_all : {X : Type 0} (all : List X) → IsFront all all
front_all all = record { front = whole all }
  where
    whole : {X : Type 0} (xs : List X) → take (length xs) xs ≡ xs
    whole [] = refl
    whole (x ∷ xs) = ap (λ ys. x ∷ ys) (whole xs)

-- the list, where the last of what is left is known
around : {X : Type 0} (all left older : List X) (x : X) → IsFront all left → left ≡ older ++ x ∷ []
    → all ≡ older ++ x ∷ drop (length left) all
around all left older x is split =
    sym (take-append-drop (length left) all)
    ∙ ap (λ xs. xs ++ drop (length left) all) (is.front ∙ split)
    ∙ append_assoc older (x ∷ []) (drop (length left) all)

-- what is left before the last is the front of the list, too
pub front_before : {X : Type 0} (all left older : List X) (x : X) → IsFront all left
    → left ≡ older ++ x ∷ [] → IsFront all older
front_before all left older x is split =
    record {
      front = ap (take (length older)) (around all left older x is split)
          ∙ take_at older (x ∷ drop (length left) all) (length older) refl;
    }

-- after it comes the last, and then what came after that
pub after_before : {X : Type 0} (all left older : List X) (x : X) → IsFront all left
    → left ≡ older ++ x ∷ [] → drop (length older) all ≡ x ∷ drop (length left) all
after_before all left older x is split =
    ap (drop (length older)) (around all left older x is split)
    ∙ drop_at older (x ∷ drop (length left) all) (length older) refl

-- what holds of each holds of the last of what is left
pub there_last : {X : Type 0} (P : X → Type 0) (all left older : List X) (x : X) → IsFront all left
    → left ≡ older ++ x ∷ [] → All P all → P x
there_last P all left older x is split holds =
    All-head P x (drop (length left) all)
    (All-same P (x ∷ drop (length left) all) (drop (length older) all)
    (sym (after_before all left older x is split)) (All-drop P (length older) all holds))
