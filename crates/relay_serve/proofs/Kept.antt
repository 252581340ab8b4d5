-- What stands at a place of a row, of which another is made; and what is so of a kept history.
use Rattle.std.proofs.Common.{◌≡◌, ◌∙◌, ℕ, zero, suc, List, [], ◌∷◌, ap, map, sym}
use Rattle.std.proofs.lemmas.Option.{same_Some}
use Rattle.std.specs.Prelude.{Err, IfOk, IsOk, Ok, OnOk, Result, Some, slice_get}

-- of what a row has at a place, what the other has there is made
pub made_there : {X Y : Type 0} (f : X → Y) (xs : List X) (k : ℕ) (x : X)
    → slice_get xs k ≡ Some x → slice_get (map f xs) k ≡ Some (f x)
made_there f [] k x at = absurd (cc)
made_there f (y ∷ xs) zero x at = ap (λ z. Some (f z)) (same_Some y x at)
made_there f (y ∷ xs) (suc k) x at = made_there f xs k x at

-- a row that is the same everywhere has that at each place
pub same_there : {X Y : Type 0} (y : Y) (xs : List X) (k : ℕ) (z : Y)
    → slice_get (map (λ (x : X). y) xs) k ≡ Some z → z ≡ y
same_there y [] k z at = absurd (cc)
same_there y (x ∷ xs) zero z at = sym (same_Some y z at)
same_there y (x ∷ xs) (suc k) z at = same_there y xs k z at

-- what both rows have at a place is the same, where the rows are
pub one_there : {Y : Type 0} (ys zs : List Y) (k : ℕ) (y z : Y) → ys ≡ zs
    → slice_get ys k ≡ Some y → slice_get zs k ≡ Some z → y ≡ z
one_there ys zs k y z same here there =
    same_Some y z (sym here ∙ ap (λ (row : List _). slice_get row k) same ∙ there)

-- what is so where a history was kept is so where totals are told, which needs that
pub where_kept : {A B E F : Type 0} (P : Type 0) (told : Result A E) (kept : Result B F)
    → OnOk told (IsOk kept) → OnOk kept P → IfOk told (λ _. P)
where_kept P (Ok a) (Ok b) needed so = so
where_kept P (Ok a) (Err e) needed so = absurd (cc)
where_kept P (Err e) kept needed so = tt
