-- Who may connect to a peer.
use Rattle.std.proofs.Common.{◌≡◌, ℕ, suc, ◌+◌, ◌*◌, ◌<◌, ◌^◌, Bool, true, false, List, [], ◌∷◌}
use Rattle.std.proofs.Common.{◌++◌, length, get_or, Ok, refl, ◌∙◌, sym, subst, arith}
use Rattle.std.specs.Prelude.{◌==◌, ◌&&◌, ◌||◌, not, codes}
use Rattle.std.specs.Net.Reader.{read_ipv4, read_number, read_octet}
use Rattle.std.specs.Int.{from_be_bytes, w128}
use Rattle.std.proofs.lemmas.Bool.{eqb-true}
use Rattle.std.proofs.lemmas.List.Folds.{list_any-append}
use Rattle.std.proofs.NetLemmas.Arrays.{sixteen_items}
use Rattle.relay_conf.specs.declared.reach.Allow.{Allow}
use Rattle.relay_conf.specs.declared.reach.Range.{Range}
use Rattle.relay_conf.specs.Reach.{IsAddress, first_bits, has_address, has_allow, is_allowed}
use Rattle.relay_conf.specs.Reach.{may_reach}
use Rattle.relay_conf.specs.ReachExamples.{ipv4_range, reach_lines, reach_settings}
use Rattle.relay_conf.specs.RelayLines as relay
use Rattle.relay_conf.specs.RelayViews.{HasSettings}

-- The lines of the example say its settings.
pub example_says : HasSettings reach_lines reach_settings
unfolding read_ipv4 read_octet read_number
example_says = record {
  said = Ok (relay.Own (codes "a"))
      ∷ Ok (relay.AllowLine (codes "p")
      (ipv4_range 192 0 2 5 31 ∷ []))
      ∷ Ok (relay.PeerLine (codes "p") (codes "b") 0)
      ∷ Ok (relay.PeerLine (codes "q") (codes "c") 0)
      ∷ Ok (relay.PeerLine (codes "r") (codes "d") 0)
      ∷ Ok (relay.AllowLine (codes "q")
      (ipv4_range 198 51 100 7 32 ∷ []))
      ∷ Ok (relay.AllowLine (codes "p")
      (ipv4_range 203 0 113 9 32 ∷ ipv4_range 10 1 2 3 8 ∷ [])) ∷ [];
  says = (refl, (refl, (refl, (refl, (refl, (refl, (refl, tt)))))));
  gives = refl;
}

-- BITS

-- Sixteen octets are a number of 128 bits.
below : (address : List ℕ) → IsAddress address → from_be_bytes w128 address < 2 ^ 128
below address is =
    omega (
      arith,
      is.octets 0,
      is.octets 1,
      is.octets 2,
      is.octets 3,
      is.octets 4,
      is.octets 5,
      is.octets 6,
      is.octets 7,
      is.octets 8,
      is.octets 9,
      is.octets 10,
      is.octets 11,
      is.octets 12,
      is.octets 13,
      is.octets 14,
      is.octets 15,
    )

-- a number and octets behind it as one number
abbrev behind : ℕ → List ℕ → ℕ
behind n [] = n
behind n (octet ∷ more) = behind (n * 256 + octet) more

-- Octets have numbers of their own.
same_octets : (m n : ℕ) (xs ys : List ℕ) → length xs ≡ length ys
    → ((i : ℕ) → get_or xs i 0 < 256) → ((i : ℕ) → get_or ys i 0 < 256)
    → behind m xs ≡ behind n ys → (m ≡ n) × (xs ≡ ys)
same_octets m n [] [] long fits fit e = (e, refl)
same_octets m n [] (y ∷ ys) long fits fit e = absurd (omega (arith, long))
same_octets m n (x ∷ xs) [] long fits fit e = absurd (omega (arith, long))
same_octets m n (x ∷ xs) (y ∷ ys) long fits fit e =
    let more = same_octets (m * 256 + x) (n * 256 + y) xs ys (omega (arith, long))
    (λ i. fits (suc i)) (λ i. fit (suc i)) e in
    let first : x ≡ y = omega (arith, more.0, fits 0, fit 0) in
    (omega (arith, more.0, fits 0, fit 0), λ i. first i ∷ more.1 i)

-- The number of sixteen octets.
number_of : (xs : List ℕ) → length xs ≡ 16 → from_be_bytes w128 xs ≡ behind 0 xs
number_of xs long =
    subst (λ (ys : List ℕ). from_be_bytes w128 xs ≡ behind 0 ys) (sym (sixteen_items xs long))
    (omega arith)

-- So none is left of it where no bit counts.
none_left : (address : List ℕ) → IsAddress address → first_bits 0 address ≡ 0
none_left address is = omega (arith, below address is)

-- A range of no bits has each address,
pub no_bit : (range : Range) (address : List ℕ) → IsAddress address → IsAddress range.address
    → range.bits ≡ 0 → has_address range address ≡ true
no_bit range address is own none =
    rw (none, none_left address is, none_left range.address own) refl

-- and one of all bits its own address alone.
pub all_bits : (range : Range) (address : List ℕ) → IsAddress address → IsAddress range.address
    → range.bits ≡ 128 → has_address range address ≡ true → address ≡ range.address
all_bits range address is own all has =
    let same : first_bits 128 address ≡ first_bits 128 range.address =
    eqb-true _ _ (rw all at has) in
    let number : from_be_bytes w128 address ≡ from_be_bytes w128 range.address =
    omega (arith, same) in
    (same_octets 0 0 address range.address (is.sixteen ∙ sym own.sixteen) is.octets own.octets
    (sym (number_of address is.sixteen) ∙ number ∙ number_of range.address own.sixteen)).1

-- PEERS

-- Ranges of no line of a peer have no address for it.
none_allowed : (allows : List Allow) (peer : ℕ) (address : List ℕ)
    → has_allow allows peer ≡ false → is_allowed allows peer address ≡ false
none_allowed [] peer address none = refl
none_allowed (allow ∷ more) peer address none =
    by_test (allow.peer == peer) (has_address allow.range address) (has_allow more peer)
    (is_allowed more peer address) none (none_allowed more peer address)
  where
    by_test : (this has others allowed : Bool) → (this || others) ≡ false
        → (others ≡ false → allowed ≡ false) → ((this && has) || allowed) ≡ false
    by_test true has others allowed e h = cc
    by_test false has others allowed e h = h e

-- Ranges of other peers don't count,
pub of_others : (allows more : List Allow) (peer : ℕ) (address : List ℕ)
    → has_allow more peer ≡ false
    → may_reach (allows ++ more) peer address ≡ may_reach allows peer address
of_others allows more peer address none =
    let allowed = none_allowed more peer address none in
    rw (
      list_any-append (λ (allow : Allow). allow.peer == peer) allows more,
      list_any-append (λ (allow : Allow). allow.peer == peer
          && has_address allow.range address) allows more,
      none,
      allowed,
    ) (by_tests (has_allow allows peer) (is_allowed allows peer address))
  where
    by_tests : (some allowed : Bool)
        → (not (some || false) || (allowed || false)) ≡ (not some || allowed)
    by_tests some allowed = grind arith

-- those of the peer add up,
pub further : (allows more : List Allow) (peer : ℕ) (address : List ℕ)
    → has_allow allows peer ≡ true
    → may_reach (allows ++ more) peer address
    ≡ (may_reach allows peer address || is_allowed more peer address)
further allows more peer address some =
    rw (
      list_any-append (λ (allow : Allow). allow.peer == peer) allows more,
      list_any-append (λ (allow : Allow). allow.peer == peer
          && has_address allow.range address) allows more,
      some,
    ) refl

-- and without one the peer is reached from everywhere.
pub from_everywhere : (allows : List Allow) (peer : ℕ) (address : List ℕ)
    → has_allow allows peer ≡ false → may_reach allows peer address ≡ true
from_everywhere allows peer address none = rw none refl
