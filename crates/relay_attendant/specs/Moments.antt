-- The moments of the relay by the machine's clock (docs/PROTOCOL.md, Limits).
use Rattle.std.specs.Prelude.{ℕ, nat_le, if◌then◌else◌}
use Rattle.relay_model.specs.Terms.{last_moment}

-- so many seconds since the first of 1970, within the limits
abbrev pub within : ℕ → ℕ
within seconds = if nat_le seconds last_moment then seconds else last_moment
