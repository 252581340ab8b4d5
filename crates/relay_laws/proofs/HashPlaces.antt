-- Places of message-ids, as plain numbers.
use Rattle.std.proofs.Common.{◌≡◌, ◌≤◌, ◌+◌, ◌%◌, ◌&&◌, ℕ, nat_le, not, Bool, true, false}
use Rattle.std.proofs.Common.{refl, arith}
use Rattle.std.proofs.Math.Nat.{mod-lt}
use Rattle.std.proofs.lemmas.Bool.{le-leb, lt-leb, leb-true, leb-false}

-- a place is one of so many
pub place-within : (h n : ℕ) → 1 ≤ n → h % n + 1 ≤ n
place-within h n some = let less = mod-lt h some in omega (arith, less)

-- a place from 1 on is up to k, or else behind k
pub up_to-or_behind : (k n place : ℕ) → 1 ≤ place → place ≤ n
    → (nat_le 1 place && nat_le place k) ≡ not (nat_le (k + 1) place && nat_le place n)
up_to-or_behind k n place low high =
    by (nat_le place k) refl
  where
    by : (b : Bool) → nat_le place k ≡ b
        → (nat_le 1 place && nat_le place k) ≡ not (nat_le (k + 1) place && nat_le place n)
    by true e =
        let up_to = leb-true place k e in
        rw (le-leb 1 place low, e, lt-leb (k + 1) place (omega (arith, up_to)))
    by false e =
        let behind = leb-false place k e in
        rw (
          le-leb 1 place low,
          e,
          le-leb (k + 1) place (omega (arith, behind)),
          le-leb place n high,
        )

-- a place is from the first to the last
pub up_to-all : (n place : ℕ) → 1 ≤ place → place ≤ n
    → (nat_le 1 place && nat_le place n) ≡ true
up_to-all n place low high = rw (le-leb 1 place low, le-leb place n high)
