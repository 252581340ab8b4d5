-- The check of an entry (docs/FORMATS.md, Journal file).
use Rattle.std.specs.Prelude.{ℕ, suc, zero, ◌*◌, ◌%◌, ◌^◌, List, bit_xor, fold}

-- the sum with one octet more, as FNV-1a of 32 bits has it
unfoldable pub sum_step : ℕ → ℕ → ℕ
sum_step sum octet = bit_xor sum octet * 16777619 % 2 ^ 32

-- the sum with these octets more
unfoldable pub sum_on : ℕ → List ℕ → ℕ
sum_on sum octets = fold sum_step sum octets

-- no check is 0
abbrev pub not_zero : ℕ → ℕ
not_zero zero = 1
not_zero (suc n) = suc n

-- the check of octets: their FNV-1a of 32 bits, and 1 where that is 0
unfoldable pub check : List ℕ → ℕ
check octets = not_zero (sum_on 2166136261 octets)
