-- Tokens whose places rise.
use Rattle.std.proofs.Common.{ℕ, ◌+◌, ◌≤◌, List, [], ◌∷◌, ◌++◌, arith}
use Rattle.news_terms.specs.Places.{on_line}
use Rattle.news_terms.specs.Token.{Token}
use Rattle.cyc_buffer.specs.Reads.{IsRisingTo}
use Rattle.cyc_buffer.specs.Stopped.{IsRisingFrom}

-- a later end is an end too
pub rising_wider : (count place mid end : ℕ) (ts : List Token) → IsRisingTo count place mid ts
    → mid ≤ end → IsRisingTo count place end ts
rising_wider count place mid end [] rising later = omega (arith, rising, later)
rising_wider count place mid end (t ∷ ts) rising later = (
  rising.0,
  rising_wider count (on_line count t.cycle t.first + 1) mid end ts rising.1 later,
)

-- one more token, at the end or behind it
pub rising_push : (count place mid end : ℕ) (ts : List Token) (t : Token)
    → IsRisingTo count place mid ts → mid ≤ on_line count t.cycle t.first
    → on_line count t.cycle t.first + 1 ≤ end
    → IsRisingTo count place end (ts ++ t ∷ [])
rising_push count place mid end [] t rising behind before =
    (omega (arith, rising, behind), before)
rising_push count place mid end (x ∷ ts) t rising behind before = (
  rising.0,
  rising_push count (on_line count x.cycle x.first + 1) mid end ts t rising.1 behind before,
)

-- what rises up to an end rises
pub rising_from : (count place end : ℕ) (ts : List Token) → IsRisingTo count place end ts
    → IsRisingFrom count place ts
rising_from count place end [] rising = tt
rising_from count place end (t ∷ ts) rising =
    (rising.0, rising_from count (on_line count t.cycle t.first + 1) end ts rising.1)
