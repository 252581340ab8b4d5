-- Who may connect to a peer (docs/FORMATS.md, Configuration).
use Rattle.std.specs.Prelude.{ℕ, ◌-◌, ◌/◌, ◌^◌, ◌==◌, ◌&&◌, ◌||◌, not, Bool, List, Option, None}
use Rattle.std.specs.Prelude.{◌≡◌, ◌<◌, Some, Result, Ok, Err, get_or, length}
use Rattle.std.specs.Int.{from_be_bytes, w128}
use Rattle.std.specs.List.{list_any}
use Rattle.relay_conf.specs.declared.faults.Fault.{Fault}
use Rattle.relay_conf.specs.declared.reach.Allow.{Allow}
use Rattle.relay_conf.specs.declared.reach.Range.{Range}

-- sixteen octets
pub record IsAddress (address : List ℕ) : Type 0 where
  pub sixteen : length address ≡ 16
  pub octets : (i : ℕ) → get_or address i 0 < 256

-- the first so many bits of an address, as a number: its sixteen octets are one number of 128 bits,
-- the first octet counting most (RFC 4291 section 2.3). An IPv4 address is its IPv4-mapped one (RFC
-- 4291 section 2.5.5.2): so ::/0 has all addresses, and 0.0.0.0/0, which counts 96 bits, has all of
-- IPv4 (docs/FORMATS.md, Configuration)
abbrev pub first_bits : (bits : ℕ) → (address : List ℕ) → ℕ
first_bits bits address = from_be_bytes w128 address / 2 ^ (128 - bits)

-- a range has the addresses whose first bits are those of its own (RFC 4632 section 3.1; RFC 4291
-- section 2.3)
abbrev pub has_address : Range → (address : List ℕ) → Bool
has_address range address = first_bits range.bits address == first_bits range.bits range.address

-- ranges of the peer of this number are said (docs/FORMATS.md, Configuration)
abbrev pub has_allow : List Allow → (peer : ℕ) → Bool
has_allow allows peer = list_any (λ allow. allow.peer == peer) allows

-- a range of the peer of this number has the address (docs/FORMATS.md, Configuration)
abbrev pub is_allowed : List Allow → (peer : ℕ) → (address : List ℕ) → Bool
is_allowed allows peer address =
    list_any (λ allow. allow.peer == peer && has_address allow.range address) allows

-- the address may connect to the peer of this number: no range of it is said, or one that is has
-- the address (docs/FORMATS.md, Configuration)
abbrev pub may_reach : List Allow → (peer : ℕ) → (address : List ℕ) → Bool
may_reach allows peer address = not (has_allow allows peer) || is_allowed allows peer address

-- the fault of words that aren't all ranges
abbrev pub fault_in : Result (List Range) Fault → Option Fault
fault_in (Ok ranges) = None
fault_in (Err fault) = Some fault
