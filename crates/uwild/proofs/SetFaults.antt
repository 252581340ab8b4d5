-- A fault of the octets between brackets stands at their `[`.
use Rattle.std.proofs.Common.{◌≡◌, ℕ, true, false, List, [], ◌∷◌, ◌++◌, codes, sym, ap, ◌∙◌, inl}
use Rattle.std.proofs.Common.{inr, append_assoc}
use Rattle.std.specs.Prelude.{nat_eq}
use Rattle.std.specs.List.{starts_with}
use Rattle.std.specs.Str.{byte}
use Rattle.news_terms.specs.Pattern.{ExpressionFault, OpenSet, EmptySet, BadRange, DanglingEscape}
use Rattle.news_terms.specs.Pattern.{NonAscii, BeginsFaulty, in_set, in_reverse, has_no_bracket}
use Rattle.uwild.specs.declared.expression.WildError.{WildError}
use Rattle.uwild.specs.declared.expression.WildError.TheVariants as errors
use Rattle.uwild.specs.Expression.{IsFault}
use Rattle.uwild.specs.Reads.{HasSetFault}

-- what follows from each fault
pub fault_map : (P Q : ExpressionFault → Type 0) → ((fault : ExpressionFault) → P fault → Q fault)
    → (error : WildError) → IsFault P error → IsFault Q error
fault_map P Q f errors.Memory h = h
fault_map P Q f errors.OpenSet h = f OpenSet h
fault_map P Q f errors.EmptySet h = f EmptySet h
fault_map P Q f errors.BadRange h = f BadRange h
fault_map P Q f errors.DanglingEscape h = f DanglingEscape h
fault_map P Q f errors.NonAscii h = f NonAscii h

-- the `]` behind a set
pub closed : (set rest : List ℕ) → set ++ byte "]" ∷ rest ≡ (set ++ byte "]" ∷ []) ++ rest
closed set rest = sym (append_assoc set (codes "]") rest)

-- a fault of a set
pub set_begins : (set : List ℕ) → has_no_bracket set ≡ true
    → starts_with nat_eq set (codes "^") ≡ false → (fault : ExpressionFault) → HasSetFault set fault
    → (rest : List ℕ) → BeginsFaulty (byte "[" ∷ (set ++ byte "]" ∷ rest)) fault
set_begins set n k OpenSet h rest = absurd h
set_begins set n k EmptySet h rest = (rest, inl (ap (λ x. byte "[" ∷ (x ++ byte "]" ∷ rest)) h))
set_begins set n k BadRange h rest =
    in_set set rest (ap (λ x. byte "[" ∷ x) (closed set rest)) n k h
set_begins set n k DanglingEscape h rest = absurd h
set_begins set n k NonAscii h rest =
    inr (in_set set rest (ap (λ x. byte "[" ∷ x) (closed set rest)) n k h)

-- a fault of the reverse of one
pub reverse_begins : (between set : List ℕ) → between ≡ byte "^" ∷ set → has_no_bracket set ≡ true
    → (fault : ExpressionFault) → HasSetFault set fault
    → (rest : List ℕ) → BeginsFaulty (byte "[" ∷ (between ++ byte "]" ∷ rest)) fault
reverse_begins between set e n OpenSet h rest = absurd h
reverse_begins between set e n EmptySet h rest =
    (rest, inr (ap (λ x. byte "[" ∷ (x ++ byte "]" ∷ rest)) (e ∙ ap (λ x. byte "^" ∷ x) h)))
reverse_begins between set e n BadRange h rest =
    in_reverse set rest (spelled between set e rest) n h
  where
    spelled : (between set : List ℕ) → between ≡ byte "^" ∷ set → (rest : List ℕ)
        → byte "[" ∷ (between ++ byte "]" ∷ rest)
        ≡ byte "[" ∷ byte "^" ∷ ((set ++ byte "]" ∷ []) ++ rest)
    spelled between set e rest =
        ap (λ x. byte "[" ∷ (x ++ byte "]" ∷ rest)) e
        ∙ ap (λ x. byte "[" ∷ byte "^" ∷ x) (closed set rest)
reverse_begins between set e n DanglingEscape h rest = absurd h
reverse_begins between set e n NonAscii h rest =
    inr (in_reverse set rest (ap (λ x. byte "[" ∷ (x ++ byte "]" ∷ rest)) e
    ∙ ap (λ x. byte "[" ∷ byte "^" ∷ x) (closed set rest)) n h)
