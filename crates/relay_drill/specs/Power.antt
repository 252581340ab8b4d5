-- When the power of a drill's devices goes (docs/FORMATS.md, Drill scripts: `crash BUFFER K`).
use Rattle.std.specs.Prelude.{◌≡◌, ℕ, ◌==◌, ◌-◌, ◌<◌, nat_le, Bool, true, false, List, [], ◌∷◌}
use Rattle.std.specs.Prelude.{length, filter, if◌then◌else◌}
use Rattle.relay_drill.specs.declared.power.Power.{Power}
use Rattle.relay_drill.specs.declared.power.Power.TheVariants.{On, Ends, Off}

-- one call less before it goes: behind the last it is gone
abbrev pub one_less : (buffer left : ℕ) → Power
one_less buffer left = if nat_le left 1 then Off else Ends buffer (left - 1)

-- the power behind a call of this buffer's device that is done
abbrev pub after_call : (buffer : ℕ) → Power → Power
after_call buffer On = On
after_call buffer (Ends other left) =
    if buffer == other then one_less other left else Ends other left
after_call buffer Off = Off

-- the power is gone
abbrev pub is_gone : Power → Bool
is_gone On = false
is_gone (Ends buffer left) = false
is_gone Off = true

-- WHAT THE LAW SAYS

-- the power behind calls of these buffers' devices, one after the other
abbrev pub after_calls : List ℕ → Power → Power
after_calls [] power = power
after_calls (buffer ∷ calls) power = after_calls calls (after_call buffer power)

-- so many of the calls are of this buffer's device
abbrev pub calls_to : (buffer : ℕ) → List ℕ → ℕ
calls_to buffer calls = length (filter (λ (it : ℕ). it == buffer) calls)

-- it is gone once so many calls of this buffer's device were done, whichever the others are, and
-- not before
abbrev pub GoesBehind : Type 0
GoesBehind =
    (buffer k : ℕ) (calls : List ℕ) → 0 < k
    → is_gone (after_calls calls (Ends buffer k)) ≡ nat_le k (calls_to buffer calls)
