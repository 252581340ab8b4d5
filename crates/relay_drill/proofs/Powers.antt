-- When the power goes, whichever devices are called.
use Rattle.std.proofs.Common.{◌≡◌, ◌<◌, ◌-◌, ◌==◌, ℕ, zero, suc, Bool, true, false, List, [], ◌∷◌}
use Rattle.std.proofs.Common.{◌∙◌, arith, filter, length, refl, sym, if◌then◌else◌}
use Rattle.std.proofs.Math.Dec.{leb-suc-suc, leb-suc-zero}
use Rattle.std.proofs.lemmas.Bool.{le-leb, leb-false, leb-true}
use Rattle.std.specs.Prelude.{nat_le}
use Rattle.relay_drill.specs.Power.{GoesBehind, after_calls, calls_to, is_gone, one_less}
use Rattle.relay_drill.specs.declared.power.Power.TheVariants.{Ends, Off}

-- once it is gone it stays so
stays_gone : (calls : List ℕ) → is_gone (after_calls calls Off) ≡ true
stays_gone [] = refl
stays_gone (buffer ∷ calls) = stays_gone calls

-- the last call left, or another
tested : (buffer j : ℕ) (calls : List ℕ) (count : ℕ) (b : Bool) → nat_le (suc j) 1 ≡ b
    → ((i : ℕ) → 0 < i → is_gone (after_calls calls (Ends buffer i)) ≡ nat_le i count)
    → is_gone (after_calls calls (if b then Off else Ends buffer (suc j - 1)))
    ≡ nat_le (suc j) (suc count)
tested buffer j calls count true is later =
    stays_gone calls
    ∙ sym (le-leb (suc j) (suc count) (omega (arith, leb-true (suc j) 1 is)))
tested buffer j calls count false is later =
    let same : suc j - 1 ≡ j = omega arith in
    rw same (later j (omega (arith, leb-false (suc j) 1 is)) ∙ sym (leb-suc-suc j count))

-- behind one call of the device it is gone, or as many calls less are left
one_more : (buffer k : ℕ) (calls : List ℕ) (count : ℕ) → 0 < k
    → ((i : ℕ) → 0 < i → is_gone (after_calls calls (Ends buffer i)) ≡ nat_le i count)
    → is_gone (after_calls calls (one_less buffer k)) ≡ nat_le k (suc count)
one_more buffer zero calls count some later = absurd (omega (arith, some))
one_more buffer (suc j) calls count some later =
    tested buffer j calls count (nat_le (suc j) 1) refl later

-- a call of this device or of another
either : (buffer k call : ℕ) (calls : List ℕ) (b : Bool) → 0 < k
    → ((j : ℕ) → 0 < j
    → is_gone (after_calls calls (Ends buffer j)) ≡ nat_le j (calls_to buffer calls))
    → is_gone (after_calls calls (if b then one_less buffer k else Ends buffer k))
    ≡ nat_le k (length (if b then call ∷ filter (λ (it : ℕ). it == buffer) calls
    else filter (λ (it : ℕ). it == buffer) calls))
either buffer k call calls true some later =
    one_more buffer k calls (calls_to buffer calls) some later
either buffer k call calls false some later = later k some

-- It is gone behind the k-th call of the device, and not before.
pub goes_behind : GoesBehind
goes_behind buffer zero calls some = absurd (omega (arith, some))
goes_behind buffer (suc k) [] some = sym (leb-suc-zero k)
goes_behind buffer (suc k) (call ∷ calls) some =
    either buffer (suc k) call calls (call == buffer) some
    (λ j positive. goes_behind buffer j calls positive)
