-- What `get` finds at a place.
use Rattle.std.proofs.Common.{◌≡◌, sym, refl, ℕ, List, ltb, length, Option, None, Some, IfSome}
use Rattle.std.proofs.Math.ListN.{get_or}
use Rattle.std.proofs.lemmas.Bool.{ltb-false, ltb-true}
use Rattle.std.proofs.lemmas.Option.{slice_get_past, slice_get_read}
use Rattle.std.specs.Borrow.{Bor}
use Rattle.std.specs.List.{slice_get}
use Rattle.std.specs.Option.{is_some, option_copied}

-- It is the element of this number, where there is one.
pub got : {X : Type 0} (xs : List X) (i : ℕ) (found : Option (Bor X))
    → is_some found ≡ ltb i (length xs) → IfSome found (λ one. one.now ≡ get_or xs i one.now)
    → option_copied found ≡ slice_get xs i
got xs i None past one = sym (slice_get_past xs i (ltb-false _ _ (sym past)))
got xs i (Some x) there one =
    sym (slice_get_read xs (length xs) i x.now refl (ltb-true _ _ (sym there)) one)
