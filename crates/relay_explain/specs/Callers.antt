-- What is told of who may connect to the peers of relay.conf (docs/FORMATS.md, Configuration).
use Rattle.std.specs.Prelude.{ℕ, ◌+◌, ◌-◌, ◌==◌, ◌&&◌, ◌||◌, not, Bool, List, [], ◌++◌, codes}
use Rattle.std.specs.Prelude.{bytes_eq, decimal, drop, filter_map, find, flat_map, map, nat_le}
use Rattle.std.specs.Prelude.{nat_lt, slice_get, take, unwrap_or, Option, None, Some}
use Rattle.std.specs.Prelude.{if◌then◌else◌}
use Rattle.std.specs.List.{enumerate_from}
use Rattle.std.specs.Net.Addr.{segments_of}
use Rattle.std.specs.Net.Text.{ipv6_text}
use Rattle.relay_conf.specs.Reach.{first_bits}
use Rattle.relay_conf.specs.declared.reach.Allow.{Allow}
use Rattle.relay_conf.specs.declared.reach.Range.{Range}
use Rattle.relay_conf.specs.declared.relay.Peer.{Peer}
use Rattle.relay_conf.specs.declared.settings.Relay.{Relay}
use Rattle.relay_explain.specs.Lines.{begins_with, odd_line, told_line, words_in}
use Rattle.relay_explain.specs.Settings.{address_text, before_ipv4, relay_conf}
use Rattle.relay_explain.specs.declared.callers.SaidRange.{SaidRange}

-- WHICH RANGES A PEER HAS, AND WHERE THEY ARE SAID

-- the range of an `allow`, where it is of the peer of this number
abbrev pub range_of : (peer : ℕ) → Allow → Option Range
range_of peer allow = if allow.peer == peer then Some allow.range else None

-- the ranges of the peer of this number, in their order
abbrev pub ranges_of : (peer : ℕ) → List Allow → List Range
ranges_of peer allows = filter_map (range_of peer) allows

-- the number from 1 of a line, of one with its number from 0, once for each range that it says of
-- the peer of this name: for each word behind that name
abbrev pub numbers_on : (name : List ℕ) → ℕ × List ℕ → List ℕ
numbers_on name one =
    if begins_with (codes "allow") name (words_in one.1)
    then map (λ word. one.0 + 1) (drop 1 (drop 1 (words_in one.1))) else []

-- the number of the line of each range of the peer of this name, in their order
abbrev pub range_lines : (name : List ℕ) → (lines : List (List ℕ)) → List ℕ
range_lines name lines = flat_map (numbers_on name) (enumerate_from 0 lines)

-- the range of this number among those of its peer, which these lines say
abbrev pub said_range : (numbers : List ℕ) → ℕ × Range → SaidRange
said_range numbers one =
    record {
      number = one.0;
      line = unwrap_or (slice_get numbers one.0) 0;
      range = one.1;
    }

-- the ranges of the peer of this number and this name, as the lines say them
abbrev pub said_ranges : Relay → (lines : List (List ℕ)) → (number : ℕ) → (name : List ℕ)
    → List SaidRange
said_ranges relay lines number name =
    map (said_range (range_lines name lines))
    (enumerate_from 0 (ranges_of number relay.allows.items))

-- WHAT A RANGE IS BESIDE ANOTHER

-- each address of the range is one of the other: that looks at no more bits, and has the range's
-- own address
abbrev pub is_within : (range other : Range) → Bool
is_within range other =
    nat_le other.bits range.bits
    && first_bits other.bits range.address == first_bits other.bits other.address

-- a range says nothing new beside another of the peer: it is within that, and where that is within
-- it too, the other is said before it
abbrev pub is_idle : (said other : SaidRange) → Bool
is_idle said other =
    is_within said.range other.range
    && (nat_lt other.number said.number || not (is_within other.range said.range))

-- the first of these beside which a range says nothing new
abbrev pub first_over : (all : List SaidRange) → SaidRange → Option SaidRange
first_over all said = find (is_idle said) all

-- HOW A RANGE IS WRITTEN

-- a range has addresses of IPv4 alone: its first 96 bits count, and are those of an IPv4-mapped
-- address (RFC 4291 section 2.5.5.2)
abbrev pub is_of_ipv4 : Range → Bool
is_of_ipv4 range =
    nat_le 96 range.bits && bytes_eq (take 6 (segments_of range.address)) before_ipv4

-- the address of a range as it is written: of IPv4 alone as four numbers, another as RFC 5952
-- section 4 has it
abbrev pub range_address : Range → List ℕ
range_address range =
    if is_of_ipv4 range then address_text range.address else ipv6_text (segments_of range.address)

-- how many bits stand before those that are counted behind an address
abbrev pub bits_before : Range → ℕ
bits_before range = if is_of_ipv4 range then 96 else 0

-- how many bits count, where not all do: `/24`
abbrev pub bits_text : Range → List ℕ
bits_text range =
    if range.bits == 128 then [] else codes "/" ++ decimal (range.bits - bits_before range)

-- a range as it is written: `192.0.2.0/24`
abbrev pub range_text : Range → List ℕ
range_text range = range_address range ++ bits_text range

-- WHAT IS TOLD

-- what the line of a peer says where none of its ranges is said
abbrev pub anyone_text : (has_ranges : Bool) → List ℕ
anyone_text has_ranges = if has_ranges then [] else codes ", from any address"

-- `peer p1 from 192.0.2.0/24`
abbrev pub range_told : (name : List ℕ) → Range → List ℕ
range_told name range = codes "peer " ++ name ++ codes " from " ++ range_text range

-- no bit of a range counts
abbrev pub has_all : Range → Bool
has_all range = range.bits == 0

-- no bit of a range of IPv4 counts but those that are of each such address
abbrev pub has_all_of_ipv4 : Range → Bool
has_all_of_ipv4 range = is_of_ipv4 range && range.bits == 96

-- what is odd in a range beside which another, the first that does, has all that it has
abbrev pub idle_odd : (line : ℕ) → Option SaidRange → List ℕ
idle_odd line None = []
idle_odd line (Some other) =
    told_line relay_conf line
    (codes "odd: the range says nothing new: it is within " ++ range_text other.range)

-- what is told of a range of the peer of this name, among all that it has; it is odd where no bit
-- counts, and where it says nothing new
unfoldable pub said_range_text : (name : List ℕ) → (all : List SaidRange) → SaidRange → List ℕ
said_range_text name all said =
    told_line relay_conf said.line (range_told name said.range)
    ++ odd_line (has_all said.range) relay_conf said.line (codes "the range has every address")
    ++ odd_line (has_all_of_ipv4 said.range) relay_conf said.line
    (codes "the range has every IPv4 address")
    ++ idle_odd said.line (first_over all said)

-- what is told of all ranges of the peer of this name
abbrev pub said_ranges_text : (name : List ℕ) → (all : List SaidRange) → List ℕ
said_ranges_text name all = flat_map (said_range_text name all) all

-- what is told of the ranges of a peer of this number; of one that isn't served nothing is, since
-- nobody can connect to it
unfoldable pub callers_text : Relay → (lines : List (List ℕ)) → (number : ℕ) → Peer → List ℕ
callers_text relay lines number peer =
    if peer.port == 0 then []
    else said_ranges_text peer.name (said_ranges relay lines number peer.name)
