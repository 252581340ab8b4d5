-- Counts that contracts alone see.
use Rattle.std.specs.Prelude.{ℕ, ◌+◌, Option, None, Some}

-- one more than the count before, or 0 where there was none
abbrev pub one_after : Option ℕ → ℕ
one_after None = 0
one_after (Some n) = n + 1
