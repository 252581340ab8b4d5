-- What has to be known before something can be played: nothing, or a statement.
use Rattle.std.proofs.Common.{◌≡◌, refl}

-- nothing, or a statement
pub data Premise : Type 1 where
  Free : Premise
  Needs : Type 0 → Premise
  Both : Premise → Premise → Premise

-- the premise holds
abbrev pub IsMet : Premise → Type 0
IsMet Free = Unit {0}
IsMet (Needs statement) = statement
IsMet (Both one other) = IsMet one × IsMet other

-- the premise holds, and the rest too
abbrev pub With : Premise → Type 0 → Type 0
With Free rest = rest
With (Needs statement) rest = statement × rest
With (Both one other) rest = With one (With other rest)

-- both parts
pub parted : (premise : Premise) (rest : Type 0) → With premise rest → IsMet premise × rest
parted Free rest has = (tt, has)
parted (Needs statement) rest has = has
parted (Both one other) rest has =
    let first = parted one (With other rest) has in
    let second = parted other rest first.1 in
    ((first.0, second.0), second.1)

-- five statements that computing shows, before the rest
pub five : {A B C D E R : Type 0} {a : A} {b : B} {c : C} {d : D} {e : E} → R
    → (a ≡ a) × ((b ≡ b) × ((c ≡ c) × ((d ≡ d) × ((e ≡ e) × R))))
five rest = (refl, (refl, (refl, (refl, (refl, rest)))))
