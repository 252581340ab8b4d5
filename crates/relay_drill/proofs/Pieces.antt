-- The pieces of octets: more turns than octets change nothing.
use Rattle.std.proofs.Common.{◌≡◌, ℕ, zero, suc, ◌<◌, ◌≤◌, List, [], ◌∷◌, length, take, drop, refl}
use Rattle.std.proofs.Common.{ap, arith, false, length-drop, min, ◌+◌, ◌==◌, ◌∙◌}
use Rattle.std.proofs.lemmas.List.{take_min, drop_min}
use Rattle.relay_drill.specs.Todo.{pieces_in}

-- Any turns that are enough give the same pieces.
pub same_pieces : (turns other size : ℕ) (octets : List ℕ) → 0 < size → length octets ≤ turns
    → length octets ≤ other → pieces_in turns size octets ≡ pieces_in other size octets
same_pieces zero zero size [] some h k = refl
same_pieces zero (suc other) size [] some h k = refl
same_pieces (suc turns) zero size [] some h k = refl
same_pieces (suc turns) (suc other) size [] some h k = refl
same_pieces zero other size (c ∷ cs) some h k = absurd (omega (arith, h))
same_pieces (suc turns) zero size (c ∷ cs) some h k = absurd (omega (arith, k))
same_pieces (suc turns) (suc other) size (c ∷ cs) some h k =
    ap (λ (pieces : List (List ℕ)). take size (c ∷ cs) ∷ pieces)
    (same_pieces turns other size (drop size (c ∷ cs)) some
    (omega (arith, length-drop size (c ∷ cs), h)) (omega (arith, length-drop size (c ∷ cs), k)))

-- The first piece, and the pieces of what is left.
pub next_piece : (size : ℕ) (octets : List ℕ) → 0 < size → 0 < length octets
    → pieces_in (length octets) size octets ≡ take size octets ∷ pieces_in
    (length (drop size octets)) size (drop size octets)
next_piece size [] some h = absurd (omega (arith, h))
next_piece size (c ∷ cs) some h =
    ap (λ (pieces : List (List ℕ)). take size (c ∷ cs) ∷ pieces)
    (same_pieces (length cs) (length (drop size (c ∷ cs))) size (drop size (c ∷ cs)) some
    (omega (arith, length-drop size (c ∷ cs))) (omega arith))

-- The same of a cut at the size or at the end, where that comes first.
pub next_pieces : (size mid : ℕ) (rest piece after : List ℕ) → 0 < size → 0 < length rest
    → mid ≡ min size (length rest) → piece ≡ take mid rest → after ≡ drop mid rest
    → pieces_in (length rest) size rest ≡ piece ∷ pieces_in (length after) size after
next_pieces size mid rest piece after some h m p a =
    let front : piece ≡ take size rest = p ∙ ap (λ n. take n rest) m ∙ take_min size rest in
    let back : after ≡ drop size rest = a ∙ ap (λ n. drop n rest) m ∙ drop_min size rest in
    rw (front, back) (next_piece size rest some h)

-- Where octets are left they are some.
pub some_left : (octets : List ℕ) → false ≡ (length octets == 0) → 0 < length octets
some_left [] e = absurd (cc e)
some_left (c ∷ cs) e = omega arith

-- Behind a cut at the size or at the end are fewer.
pub fewer_behind : (size mid : ℕ) (rest after : List ℕ) → 0 < size → 0 < length rest
    → mid ≡ min size (length rest) → length after + mid ≡ length rest
    → length after < length rest
fewer_behind size mid rest after some h m p = omega (arith, m, p)

-- Octets of no length are none.
pub no_octets : (octets : List ℕ) → length octets ≡ 0 → octets ≡ []
no_octets [] e = refl
no_octets (c ∷ cs) e = absurd (omega (arith, e))
