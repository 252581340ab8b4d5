-- Tokens: where a stored article lies (docs/FORMATS.md, Tokens).
use Rattle.std.specs.Prelude.{ℕ, ◌+◌, ◌/◌, ◌%◌, ◌<◌, ◌==◌, nat_lt, ◌&&◌, Bool, List, [], ◌∷◌, ◌++◌}
use Rattle.std.specs.Prelude.{flat_map, ◌^◌, if◌then◌else◌}
use Rattle.std.specs.Int.{to_be_bytes, w32}

-- where a stored article lies, and how long it is
pub record Token : Type 0 where
  -- the number of its storage class
  pub class : ℕ
  -- the number of its buffer, in the order of the configuration
  pub buffer : ℕ
  -- the cycle of the buffer that it was begun in
  pub cycle : ℕ
  -- its first block in the buffer
  pub first : ℕ
  -- the octets of its text
  pub length : ℕ

-- each part has room in the text of a token
pub record IsToken (t : Token) : Type 0 where
  pub class : t.class < 2 ^ 8
  pub buffer : t.buffer < 2 ^ 8
  pub cycle : t.cycle < 2 ^ 32
  pub first : t.first < 2 ^ 32
  pub length : t.length < 2 ^ 32

-- two tokens agree in all five parts
abbrev pub same_token : Token → Token → Bool
same_token a b =
    a.class == b.class && a.buffer == b.buffer && a.cycle == b.cycle && a.first == b.first
    && a.length == b.length

-- the upper case hexadecimal digit of a number below 16
abbrev pub upper_digit : ℕ → ℕ
upper_digit n = if nat_lt n 10 then n + 48 else n + 55

-- the two digits of an octet
abbrev pub octet_digits : ℕ → List ℕ
octet_digits n = upper_digit (n / 16) ∷ upper_digit (n % 16) ∷ []

-- the octets of a token's parts, high first: class, buffer, cycle, first block and length
abbrev pub token_octets : Token → List ℕ
token_octets t =
    t.class ∷ t.buffer ∷ to_be_bytes w32 t.cycle ++ to_be_bytes w32 t.first
    ++ to_be_bytes w32 t.length

-- the text of a token: `@`, 28 digits, `@`
abbrev pub token_text : Token → List ℕ
token_text t = 64 ∷ flat_map octet_digits (token_octets t) ++ 64 ∷ []
