-- relay.conf: what its lines say, one by one.
use Rattle.std.specs.Prelude.{◌≡◌, ℕ, ◌+◌, ◌-◌, ◌==◌, Bool, ◌&&◌, nat_le, List, [], ◌∷◌, length}
use Rattle.std.specs.Prelude.{slice_index, take, drop, codes, bytes_eq, Option, None, Some, true}
use Rattle.std.specs.Prelude.{false}
use Rattle.std.specs.Prelude.{option_map, Result, Ok, Err, if◌then◌else◌}
use Rattle.std.specs.Net.Addr.{octets_of}
use Rattle.std.specs.Net.Reader.{read_ipv4, read_ipv6, whole_value}
use Rattle.std.specs.Str.{byte}
use Rattle.news_terms.specs.Article.{without_outer_white}
use Rattle.news_terms.specs.Pattern.{Marked, ExpressionFault, IsExpressionText, HasLeftmostFault}
use Rattle.relay_conf.specs.declared.faults.Fault.{Fault}
use Rattle.relay_conf.specs.declared.faults.Fault.TheVariants.{Syntax, UnknownKey, Number, Pattern}
use Rattle.line_words.specs.Comments.{is_skipped}
use Rattle.line_words.specs.Numbers.{number_within}
use Rattle.line_words.specs.Parts.{parts, one_of, two_of, three_of}
use Rattle.relay_conf.specs.Cycbuff.{is_file}
use Rattle.relay_conf.specs.HashLines.{hash_behind}
use Rattle.relay_conf.specs.Words.{words, is_name, is_identity}
use Rattle.relay_conf.specs.declared.hash_feeds.HashFeed.{HashFeed}
use Rattle.relay_conf.specs.declared.reach.Range.{Range}

-- what a line of relay.conf says, faults apart; a feed has its expression as E: first its text,
-- then what that is (docs/FORMATS.md, Configuration)
pub data RelayLine (E : Type 0) : Type 0 where
  -- a comment or an empty line
  Skipped : RelayLine E
  -- `own IDENTITY`
  Own : (identity : List ℕ) → RelayLine E
  -- `maxart N`
  MaxArticle : (octets : ℕ) → RelayLine E
  -- `cutoff N`
  Cutoff : (seconds : ℕ) → RelayLine E
  -- `remember N`
  Remember : (seconds : ℕ) → RelayLine E
  -- `patience N`
  Patience : (seconds : ℕ) → RelayLine E
  -- `sync N`
  Sync : (seconds : ℕ) → RelayLine E
  -- `offers N`
  Offers : (seconds : ℕ) → RelayLine E
  -- `log refused FILE`, or `log all FILE`
  Log : (all : Bool) (path : List ℕ) → RelayLine E
  -- `bind ADDRESS`
  Bind : (address : List ℕ) → RelayLine E
  -- `peer NAME IDENTITY PORT`
  PeerLine : (name identity : List ℕ) (port : ℕ) → RelayLine E
  -- `connections NAME N`
  ConnectionsLine : (name : List ℕ) (connections : ℕ) → RelayLine E
  -- `allow NAME ADDRESS[/BITS] ..`
  AllowLine : (name : List ℕ) (ranges : List Range) → RelayLine E
  -- `feed NAME RING EXPR`, or `feed NAME RING EXPR hash FROM-TO/OF`
  FeedLine : (name : List ℕ) (ring : ℕ) (expression : E) (hash : Option HashFeed) → RelayLine E

-- a line alone, its expression as text
abbrev pub RawLine : Type 0
RawLine = Result (RelayLine (List ℕ)) Fault

-- a line with its expression read
abbrev pub SaidLine : Type 0
SaidLine = Result (RelayLine (List Marked)) Fault

-- what follows `own` (docs/FORMATS.md, Configuration)
abbrev pub own_line : (word : Option (List ℕ)) → RawLine
own_line None = Err Syntax
own_line (Some identity) = if is_identity identity then Ok (Own identity) else Err Syntax

-- a number, where the word is one (docs/FORMATS.md, Configuration)
abbrev pub number_or_fault : Option ℕ → Result ℕ Fault
number_or_fault None = Err Number
number_or_fault (Some number) = Ok number

-- the one number of a line, in this range (docs/FORMATS.md, Configuration)
abbrev pub number_line : (least most : ℕ) → (word : Option (List ℕ)) → Result ℕ Fault
number_line least most None = Err Syntax
number_line least most (Some word) = number_or_fault (number_within least most word)

-- a line of a number
abbrev pub with_number : (ℕ → RelayLine (List ℕ)) → Result ℕ Fault → RawLine
with_number line (Err fault) = Err fault
with_number line (Ok number) = Ok (line number)

-- whether accepted articles have lines in the news log, by the word `refused` or `all`
-- (docs/FORMATS.md, Configuration)
abbrev pub logs_all : (word : List ℕ) → Option Bool
logs_all word =
    if bytes_eq word (codes "refused") then Some false
    else if bytes_eq word (codes "all") then Some true
    else None

-- the news log in a file, or Syntax where that has no path, or the word before it was neither
-- (docs/FORMATS.md, Configuration)
abbrev pub log_in : (all : Option Bool) → (path : List ℕ) → RawLine
log_in None path = Err Syntax
log_in (Some all) path = if is_file path then Ok (Log all path) else Err Syntax

-- what follows `log` (docs/FORMATS.md, Configuration)
abbrev pub log_line : (two : Option (List ℕ × List ℕ)) → RawLine
log_line None = Err Syntax
log_line (Some two) = log_in (logs_all two.0) two.1

-- an IPv4 address as an IPv6 one, its IPv4-mapped address: ten octets 0, two of 255, and then its
-- own four (RFC 4291 section 2.5.5.2)
abbrev pub mapped : (octets : List ℕ) → List ℕ
mapped octets = 0 ∷ 0 ∷ 0 ∷ 0 ∷ 0 ∷ 0 ∷ 0 ∷ 0 ∷ 0 ∷ 0 ∷ 255 ∷ 255 ∷ octets

-- the four octets of an IPv4 address, where the whole word is one: four decimal numbers to 255 with
-- dots between them, none with a 0 in front of further digits (RFC 3986 section 3.2.2)
abbrev pub ipv4_of : (word : List ℕ) → Option (List ℕ)
ipv4_of word = whole_value (read_ipv4 word)

-- the sixteen octets of an IPv6 address, where the whole word is one: eight groups of one to four
-- hexadecimal digits with colons between them; `::` may stand once for one or more groups of zeros,
-- and the last two may be written as an IPv4 address (RFC 4291 section 2.2)
abbrev pub ipv6_of : (word : List ℕ) → Option (List ℕ)
ipv6_of word = option_map octets_of (whole_value (read_ipv6 word))

-- the word begins with `[` and ends with `]`
abbrev pub is_bracketed : (word : List ℕ) → Bool
is_bracketed word =
    nat_le 2 (length word) && slice_index word 0 == byte "["
    && slice_index word (length word - 1) == byte "]"

-- what stands between the brackets of a word, and of a word without them all
abbrev pub without_brackets : (word : List ℕ) → List ℕ
without_brackets word =
    if is_bracketed word then take (length word - 2) (drop 1 word) else word

-- the octets of an IPv4 address mapped, where there is one, else those of an IPv6 address
abbrev pub either_address : (four sixteen : Option (List ℕ)) → Option (List ℕ)
either_address None sixteen = sixteen
either_address (Some octets) sixteen = Some (mapped octets)

-- an address, where the word is one, as the sixteen octets of an IPv6 address: an IPv4 address is
-- its IPv4-mapped one; an IPv6 address may stand in brackets (docs/FORMATS.md, Configuration)
abbrev pub address_of : (word : List ℕ) → Option (List ℕ)
address_of word = either_address (ipv4_of word) (ipv6_of (without_brackets word))

-- an address, where the word is one (docs/FORMATS.md, Configuration)
abbrev pub address_or_fault : Option (List ℕ) → RawLine
address_or_fault None = Err Syntax
address_or_fault (Some address) = Ok (Bind address)

-- what follows `bind` (docs/FORMATS.md, Configuration)
abbrev pub bind_line : (word : Option (List ℕ)) → RawLine
bind_line None = Err Syntax
bind_line (Some word) = address_or_fault (address_of word)

-- a peer, or Number where its port is none (docs/FORMATS.md, Configuration)
abbrev pub peer_ported : (name identity : List ℕ) → Option ℕ → RawLine
peer_ported name identity None = Err Number
peer_ported name identity (Some port) = Ok (PeerLine name identity port)

-- what follows `peer` (docs/FORMATS.md, Configuration)
abbrev pub peer_line : (three : Option (List ℕ × List ℕ × List ℕ)) → RawLine
peer_line None = Err Syntax
peer_line (Some three) =
    if is_name three.0 && is_identity three.1
    then peer_ported three.0 three.1 (number_within 0 65535 three.2)
    else Err Syntax

-- the connections of a peer, or Number where they are none (docs/FORMATS.md, Configuration)
abbrev pub connections_numbered : (name : List ℕ) → Option ℕ → RawLine
connections_numbered name None = Err Number
connections_numbered name (Some connections) = Ok (ConnectionsLine name connections)

-- what follows `connections` (docs/FORMATS.md, Configuration)
abbrev pub connections_line : (two : Option (List ℕ × List ℕ)) → RawLine
connections_line None = Err Syntax
connections_line (Some two) =
    if is_name two.0 then connections_numbered two.0 (number_within 1 64 two.1) else Err Syntax

-- a range of this address and of so many of its bits, or the fault of what is none of these
-- (docs/FORMATS.md, Configuration)
abbrev pub ranged : (address : Option (List ℕ)) → (bits : Option ℕ) → Result Range Fault
ranged None bits = Err Syntax
ranged (Some address) None = Err Number
ranged (Some address) (Some bits) = Ok (record { address = address; bits = bits })

-- how many of the 128 bits of an address count: behind an IPv4 address the 96 in front of it and 0
-- to 32 of its own, else 0 to 128 (docs/FORMATS.md, Configuration)
abbrev pub bits_behind : (four : Option (List ℕ)) → (bits : List ℕ) → Option ℕ
bits_behind None bits = number_within 0 128 bits
bits_behind (Some octets) bits = option_map (λ n. 96 + n) (number_within 0 32 bits)

-- the same by the word of the address (docs/FORMATS.md, Configuration)
abbrev pub bits_of : (address bits : List ℕ) → Option ℕ
bits_of address bits = bits_behind (ipv4_of address) bits

-- the range of the parts between slashes: an address, and how many of its bits count, without a
-- number all 128 (docs/FORMATS.md, Configuration)
abbrev pub range_of_parts : List (List ℕ) → Result Range Fault
range_of_parts [] = Err Syntax
range_of_parts (address ∷ []) = ranged (address_of address) (Some 128)
range_of_parts (address ∷ bits ∷ []) = ranged (address_of address) (bits_of address bits)
range_of_parts (address ∷ bits ∷ other ∷ more) = Err Syntax

-- the range that a word is, or its fault (docs/FORMATS.md, Configuration)
abbrev pub range_of : (word : List ℕ) → Result Range Fault
range_of word = range_of_parts (parts (byte "/") word)

-- a range, and those behind it, or the first fault (docs/FORMATS.md, Configuration)
abbrev pub range_and_more : Result Range Fault → Result (List Range) Fault
    → Result (List Range) Fault
range_and_more (Err fault) more = Err fault
range_and_more (Ok range) (Err fault) = Err fault
range_and_more (Ok range) (Ok more) = Ok (range ∷ more)

-- the ranges that words are, or the first fault (docs/FORMATS.md, Configuration)
abbrev pub ranges_of : (words : List (List ℕ)) → Result (List Range) Fault
ranges_of [] = Ok []
ranges_of (word ∷ more) = range_and_more (range_of word) (ranges_of more)

-- a peer's ranges, or their fault (docs/FORMATS.md, Configuration)
abbrev pub allow_ranged : (name : List ℕ) → Result (List Range) Fault → RawLine
allow_ranged name (Err fault) = Err fault
allow_ranged name (Ok ranges) = Ok (AllowLine name ranges)

-- what follows `allow`: a name, and one range or more (docs/FORMATS.md, Configuration)
abbrev pub allow_line : (after : List (List ℕ)) → RawLine
allow_line [] = Err Syntax
allow_line (name ∷ []) = Err Syntax
allow_line (name ∷ first ∷ more) =
    if is_name name then allow_ranged name (ranges_of (first ∷ more)) else Err Syntax

-- a feed, or the fault of its part, or Number where its ring is none (docs/FORMATS.md,
-- Configuration)
abbrev pub feed_ringed : (name text : List ℕ) → (hash : Result (Option HashFeed) Fault)
    → Option ℕ → RawLine
feed_ringed name text (Err fault) ring = Err fault
feed_ringed name text (Ok hash) None = Err Number
feed_ringed name text (Ok hash) (Some ring) = Ok (FeedLine name ring text hash)

-- what follows `feed`: a name, a ring and an expression, and what stands behind them
-- (docs/FORMATS.md, Configuration)
abbrev pub feed_line : (after : List (List ℕ)) → RawLine
feed_line [] = Err Syntax
feed_line (name ∷ []) = Err Syntax
feed_line (name ∷ ring ∷ []) = Err Syntax
feed_line (name ∷ ring ∷ text ∷ more) =
    if is_name name
    then feed_ringed name text (hash_behind more) (number_within 1 65536 ring)
    else Err Syntax

-- what the words of a line say (docs/FORMATS.md, Configuration)
abbrev pub relay_words : List (List ℕ) → RawLine
relay_words [] = Err UnknownKey
relay_words (word ∷ after) =
    if bytes_eq word (codes "own") then own_line (one_of after)
    else if bytes_eq word (codes "maxart")
    then with_number MaxArticle (number_line 1 16777216 (one_of after))
    else if bytes_eq word (codes "cutoff")
    then with_number Cutoff (number_line 0 4000000000 (one_of after))
    else if bytes_eq word (codes "remember")
    then with_number Remember (number_line 0 4000000000 (one_of after))
    else if bytes_eq word (codes "patience")
    then with_number Patience (number_line 1 86400 (one_of after))
    else if bytes_eq word (codes "sync")
    then with_number Sync (number_line 1 86400 (one_of after))
    else if bytes_eq word (codes "offers")
    then with_number Offers (number_line 1 86400 (one_of after))
    else if bytes_eq word (codes "log") then log_line (two_of after)
    else if bytes_eq word (codes "bind") then bind_line (one_of after)
    else if bytes_eq word (codes "peer") then peer_line (three_of after)
    else if bytes_eq word (codes "connections") then connections_line (two_of after)
    else if bytes_eq word (codes "allow") then allow_line after
    else if bytes_eq word (codes "feed") then feed_line after
    else Err UnknownKey

-- what a line without white space at its ends says (docs/FORMATS.md, Configuration)
abbrev pub relay_trimmed : List ℕ → RawLine
relay_trimmed line = if is_skipped line then Ok Skipped else relay_words (words line)

-- what a line of relay.conf says, or its fault alone, its expression as text (docs/FORMATS.md,
-- Configuration)
abbrev pub relay_line : List ℕ → RawLine
relay_line line = relay_trimmed (without_outer_white line)

-- the feed says the expression that its text is, or Pattern where that has a fault
-- (docs/FORMATS.md, Configuration)
abbrev pub FeedSays : (name : List ℕ) (ring : ℕ) (text : List ℕ) (hash : Option HashFeed)
    → SaidLine → Type 0
FeedSays name ring text hash (Err fault) =
    (fault ≡ Pattern) × ((found : ExpressionFault) × HasLeftmostFault text found)
FeedSays name ring text hash (Ok line) =
    (expression : List Marked) × IsExpressionText text expression
    × (line ≡ FeedLine name ring expression hash)

-- what a line says once its expression is read (docs/FORMATS.md, Configuration)
abbrev pub RawSays : RawLine → SaidLine → Type 0
RawSays (Err fault) said = said ≡ Err fault
RawSays (Ok Skipped) said = said ≡ Ok Skipped
RawSays (Ok (Own identity)) said = said ≡ Ok (Own identity)
RawSays (Ok (MaxArticle octets)) said = said ≡ Ok (MaxArticle octets)
RawSays (Ok (Cutoff seconds)) said = said ≡ Ok (Cutoff seconds)
RawSays (Ok (Remember seconds)) said = said ≡ Ok (Remember seconds)
RawSays (Ok (Patience seconds)) said = said ≡ Ok (Patience seconds)
RawSays (Ok (Sync seconds)) said = said ≡ Ok (Sync seconds)
RawSays (Ok (Offers seconds)) said = said ≡ Ok (Offers seconds)
RawSays (Ok (Log all path)) said = said ≡ Ok (Log all path)
RawSays (Ok (Bind address)) said = said ≡ Ok (Bind address)
RawSays (Ok (PeerLine name identity port)) said = said ≡ Ok (PeerLine name identity port)
RawSays (Ok (ConnectionsLine name connections)) said = said ≡ Ok (ConnectionsLine name connections)
RawSays (Ok (AllowLine name ranges)) said = said ≡ Ok (AllowLine name ranges)
RawSays (Ok (FeedLine name ring text hash)) said = FeedSays name ring text hash said

-- what a line of relay.conf says, whatever stands before it (docs/FORMATS.md, Configuration)
abbrev pub LineSays : (before : List SaidLine) → (line : List ℕ) → SaidLine → Type 0
LineSays before line said = RawSays (relay_line line) said
