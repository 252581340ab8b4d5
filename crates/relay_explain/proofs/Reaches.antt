-- A range within another of the same peer lets in nobody whom that doesn't let in.
use Rattle.std.proofs.Common.{◌≡◌, ◌∙◌, ◌≤◌, ◌-◌, ◌/◌, ◌^◌, ◌+◌, ◌∷◌, ap, arith, refl, sym, ℕ}
use Rattle.std.proofs.Common.{Bool, true, false, List}
use Rattle.std.proofs.Math.Nat.{div-div-eq-div-mul}
use Rattle.std.proofs.lemmas.Bool.{and_from, and_parts, eq-eqb, eqb-true, leb-true}
use Rattle.std.proofs.lemmas.List.Folds.{list_any-from_Any}
use Rattle.std.proofs.lemmas.Nat.{pow-add}
use Rattle.std.specs.Int.{from_be_bytes, w128}
use Rattle.std.specs.Prelude.{◌==◌, ◌&&◌, ◌||◌, Any, IsTrue, not}
use Rattle.relay_conf.specs.Reach.{first_bits, has_address, has_allow, is_allowed, may_reach}
use Rattle.relay_conf.specs.declared.reach.Allow.{Allow}
use Rattle.relay_conf.specs.declared.reach.Range.{Range}
use Rattle.relay_explain.specs.Callers.{is_within}

-- The first bits of an address are those of the first of more.
fewer_bits : (few many : ℕ) (address : List ℕ) → few ≤ many
    → first_bits few address ≡ first_bits many address / 2 ^ ((128 - few) - (128 - many))
fewer_bits few many address fewer =
    let number = from_be_bytes w128 address in
    let left = (128 - few) - (128 - many) in
    let parts : 128 - few ≡ (128 - many) + left = omega (arith, fewer) in
    ap (λ bits. number / 2 ^ bits) parts
    ∙ ap (λ divisor. number / divisor) (pow-add 2 (128 - many) left)
    ∙ sym (div-div-eq-div-mul number (2 ^ (128 - many)) (2 ^ left))

-- Each address of a range is one of a range that it is within.
within_has : (range other : Range) (address : List ℕ) → is_within range other ≡ true
    → has_address range address ≡ true → has_address other address ≡ true
within_has range other address within has =
    let tests = and_parts _ _ within in
    let fewer : other.bits ≤ range.bits = leb-true other.bits range.bits tests.0 in
    let own : first_bits other.bits range.address ≡ first_bits other.bits other.address =
    eqb-true _ _ tests.1 in
    let same : first_bits range.bits address ≡ first_bits range.bits range.address =
    eqb-true _ _ has in
    eq-eqb _ _ (fewer_bits other.bits range.bits address fewer
    ∙ ap (λ bits. bits / 2 ^ ((128 - other.bits) - (128 - range.bits))) same
    ∙ sym (fewer_bits other.bits range.bits range.address fewer) ∙ own)

-- Where another has a range that its range is within, an `allow` says nothing new.
pub nothing_new : (allow : Allow) (others : List Allow) (peer : ℕ) (address : List ℕ)
    → Any (λ (other : Allow). (other.peer ≡ allow.peer)
    × IsTrue (is_within allow.range other.range)) others
    → may_reach (allow ∷ others) peer address ≡ may_reach others peer address
nothing_new allow others peer address covered =
    by_peer (allow.peer == peer) (has_address allow.range address) refl refl
  where
    -- ranges of the peer are said without it
    still_said : (allow.peer == peer) ≡ true → has_allow others peer ≡ true
    still_said own =
        list_any-from_Any (λ (one : Allow). one.peer == peer) others (
          covered.0,
          covered.1,
          covered.2,
          covered.3,
          eq-eqb _ _ (covered.4.0 ∙ eqb-true allow.peer peer own),
        )

    -- and the address is in one of them
    still_in : (allow.peer == peer) ≡ true → has_address allow.range address ≡ true
        → is_allowed others peer address ≡ true
    still_in own has =
        list_any-from_Any (λ (one : Allow). one.peer == peer && has_address one.range address)
        others (
          covered.0,
          covered.1,
          covered.2,
          covered.3,
          and_from _ _ (eq-eqb _ _ (covered.4.0 ∙ eqb-true allow.peer peer own))
              (within_has allow.range covered.1.range address covered.4.1 has),
        )

    by_peer : (own has : Bool) → (allow.peer == peer) ≡ own
        → has_address allow.range address ≡ has
        → (not (own || has_allow others peer) || ((own && has) || is_allowed others peer address))
        ≡ (not (has_allow others peer) || is_allowed others peer address)
    by_peer false has e h = refl
    by_peer true false e h = rw (still_said e) refl
    by_peer true true e h = rw (still_said e, still_in e h) refl
