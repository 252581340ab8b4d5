-- The first fault of lines, looked for line by line.
use Rattle.std.proofs.Common.{◌≡◌, ℕ, ◌+◌, ◌<◌, List, [], ◌∷◌, ◌++◌, length, take, drop, map}
use Rattle.std.proofs.Common.{get_or, Option, Some, None, refl, ap, ◌∙◌, sym, add-one, drop-cons}
use Rattle.std.proofs.Common.{append_assoc, append-nil, arith}
use Rattle.std.specs.Prelude.{filter_map, flat_map}
use Rattle.std.specs.Option.{option_to_list}
use Rattle.std.proofs.lemmas.Grind.{flat_map-append}
use Rattle.std.proofs.lemmas.List.{map-append}
use Rattle.std.proofs.lemmas.List.Elements.{filter_map-append}
use Rattle.std.proofs.Math.Seq.{take-suc}
use Rattle.relay_conf.specs.declared.faults.Fault.{Fault}
use Rattle.relay_conf.specs.declared.faults.LineFault.{LineFault}
use Rattle.relay_conf.specs.Drafts.{late_or}
use Rattle.relay_conf.specs.Faults.{fault_or_later, first_fault}

-- one element more at the end of those passed
pub take_one : {X : Type 0} (xs : List X) (i : ℕ) (d : X) → i < length xs
    → take (i + 1) xs ≡ take i xs ++ get_or xs i d ∷ []
take_one xs i d h = rw add-one (take-suc xs i d h)

-- the next element of those that are left
pub drop_one : {X : Type 0} (xs : List X) (i : ℕ) (d : X) → i < length xs
    → drop i xs ≡ get_or xs i d ∷ drop (i + 1) xs
drop_one xs i d h = rw add-one (drop-cons xs i d h)

-- What is mapped of one element more.
pub map_one : {X L : Type 0} (f : X → L) (xs : List X) (i : ℕ) (d : X) → i < length xs
    → map f (take (i + 1) xs) ≡ map f (take i xs) ++ f (get_or xs i d) ∷ []
map_one f xs i d h = ap (map f) (take_one xs i d h) ∙ map-append f (take i xs) (get_or xs i d ∷ [])

-- What is kept of one line more.
pub filter_one : {L B : Type 0} (g : L → Option B) (before : List L) (y : L)
    → filter_map g (before ++ y ∷ []) ≡ filter_map g before ++ option_to_list (g y)
filter_one g before y = grind (arith, filter_map-append)

-- What lines and one more give together.
pub flat_one : {L B : Type 0} (g : L → List B) (before : List L) (y : L)
    → flat_map g (before ++ y ∷ []) ≡ flat_map g before ++ g y
flat_one g before y =
    flat_map-append g before (y ∷ []) ∙ ap (λ ys. flat_map g before ++ ys) (append-nil (g y))

-- A fault of a line, or that of later lines, comes before further ones.
late_behind : (n : ℕ) (here : Option Fault) (later more : Option LineFault)
    → fault_or_later n here (late_or later more) ≡ late_or (fault_or_later n here later) more
late_behind n here later more = grind arith

-- The first fault of lines and more.
pub fault_append : {L : Type 0} (wrong : List L → L → Option Fault) (before xs ys : List L)
    → first_fault wrong before (xs ++ ys)
    ≡ late_or (first_fault wrong before xs) (first_fault wrong (before ++ xs) ys)
fault_append {L} wrong before [] ys =
    ap (λ (b : List L). first_fault wrong b ys) (sym (append-nil before))
fault_append wrong before (x ∷ xs) ys =
    rw (fault_append wrong (before ++ x ∷ []) xs ys, append_assoc before (x ∷ []) xs)
    (late_behind (length before + 1) (wrong before x) _ _)

-- The first fault of lines and one more, where those have none.
pub fault_last : {L : Type 0} (wrong : List L → L → Option Fault) (xs : List L) (y : L)
    (o : Option Fault) → first_fault wrong [] xs ≡ None → wrong xs y ≡ o
    → first_fault wrong [] (xs ++ y ∷ []) ≡ fault_or_later (length xs + 1) o None
fault_last wrong xs y o h e = fault_append wrong [] xs (y ∷ []) ∙ rw (h, e) refl

-- The first fault of lines is that of these and more.
pub fault_stays : {L : Type 0} (wrong : List L → L → Option Fault) (lines more : List L)
    (fault : LineFault) → first_fault wrong [] lines ≡ Some fault
    → first_fault wrong [] (lines ++ more) ≡ Some fault
fault_stays wrong lines more fault h = fault_append wrong [] lines more ∙ rw h refl
