-- Reading the text of a history from left to right (docs/FORMATS.md, History file). Each function
-- answers what it read and the octets after it, or None where nothing can be read.
use Rattle.std.specs.Prelude.{◌≡◌, ℕ, zero, suc, List, [], ◌∷◌, length, take, drop, Option, Some}
use Rattle.std.specs.Prelude.{None, Result, Ok, Err, nat_lt, ◌==◌, if◌then◌else◌}
use Rattle.std.specs.Int.{Width, w32, w64, byte_len, from_be_bytes}
use Rattle.std.specs.Str.{bytes_eq}
use Rattle.news_terms.specs.MessageId.{IdFault, id_fault}
use Rattle.news_terms.specs.Token.{Token}
use Rattle.id_history.specs.History.{KeptId, KeptFeed, Kept, mark}
use Rattle.id_history.specs.declared.fault.HistoryError.{HistoryError}
use Rattle.id_history.specs.declared.fault.HistoryError.TheVariants.{Memory, BadHistory}

-- goes on with what was read, where something was
infixl 10 ◌>>=◌
abbrev pub ◌>>=◌ : {A B : Type 0} → Option A → (A → Option B) → Option B
(Some x) >>= f = f x
None >>= f = None

-- an error is that nothing can be read, or that memory ran out
abbrev pub Fails : {Y : Type 0} → HistoryError → Option Y → Type 0
Fails Memory read = Unit {0}
Fails BadHistory read = read ≡ None

-- what a function answered, seen by view, is what reading gives, unless memory ran out
abbrev pub Gives : {X Y : Type 0} → (X → Y) → Result X HistoryError → Option Y → Type 0
Gives view (Ok x) read = read ≡ Some (view x)
Gives view (Err e) read = Fails e read

-- one octet
abbrev pub octet_at : List ℕ → Option (ℕ × List ℕ)
octet_at [] = None
octet_at (octet ∷ rest) = Some (octet, rest)

-- a number of this width
abbrev pub number_at : Width → List ℕ → Option (ℕ × List ℕ)
number_at w bytes =
    if nat_lt (length bytes) (byte_len w) then None
    else Some (from_be_bytes w (take (byte_len w) bytes), drop (byte_len w) bytes)

-- the parts of a token
unfoldable pub token_at : List ℕ → Option (Token × List ℕ)
token_at bytes = do
  class ← octet_at bytes
  buffer ← octet_at class.1
  cycle ← number_at w32 buffer.1
  first ← number_at w32 cycle.1
  len ← number_at w32 first.1
  Some (
    record {
      class = class.0;
      buffer = buffer.0;
      cycle = cycle.0;
      first = first.0;
      length = len.0;
    },
    len.1,
  )

-- a text without a fault
abbrev pub without_fault : Option IdFault → List ℕ → Option (List ℕ)
without_fault None text = Some text
without_fault (Some fault) text = None

-- so many octets
abbrev pub text_at : ℕ → List ℕ → Option (List ℕ × List ℕ)
text_at n bytes = if nat_lt (length bytes) n then None else Some (take n bytes, drop n bytes)

-- the octets of a message-id, after their number
unfoldable pub id_at : List ℕ → Option (List ℕ × List ℕ)
id_at bytes = do
  n ← octet_at bytes
  text ← text_at n.0 n.1
  id ← without_fault (id_fault text.0) text.0
  Some (id, text.1)

-- 1 and a moment, or 2, a moment and a token
unfoldable pub fate_at : List ℕ → Option ((Option Token × ℕ) × List ℕ)
fate_at [] = None
fate_at (zero ∷ rest) = None
fate_at (suc zero ∷ rest) = do
  moment ← number_at w64 rest
  Some ((None, moment.0), moment.1)
fate_at (suc (suc zero) ∷ rest) = do
  moment ← number_at w64 rest
  token ← token_at moment.1
  Some ((Some token.0, moment.0), token.1)
fate_at (suc (suc (suc octet)) ∷ rest) = None

-- a message-id and what became of it
unfoldable pub kept_id_at : List ℕ → Option (KeptId × List ℕ)
kept_id_at bytes = do
  id ← id_at bytes
  fate ← fate_at id.1
  Some (record { id = id.0; token = fate.0.0; moment = fate.0.1 }, fate.1)

-- so many of a kind
unfoldable pub times_at : {X : Type 0} → (List ℕ → Option (X × List ℕ)) → ℕ → List ℕ
    → Option (List X × List ℕ)
times_at at zero bytes = Some ([], bytes)
times_at at (suc n) bytes = do
  first ← at bytes
  others ← times_at at n first.1
  Some (first.0 ∷ others.0, others.1)

-- those of a kind, after their number
unfoldable pub counted_at : {X : Type 0} → Width → (List ℕ → Option (X × List ℕ)) → List ℕ
    → Option (List X × List ℕ)
counted_at w at bytes = do
  n ← number_at w bytes
  times_at at n.0 n.1

-- a feed
unfoldable pub feed_at : List ℕ → Option (KeptFeed × List ℕ)
feed_at bytes = do
  gained ← number_at w64 bytes
  passed ← number_at w64 gained.1
  taken ← number_at w64 passed.1
  waiting ← counted_at w32 token_at taken.1
  Some (
    record {
      gained = gained.0;
      passed = passed.0;
      taken = taken.0;
      waiting = waiting.0;
    },
    waiting.1,
  )

-- the octets after the mark
abbrev pub marked_at : List ℕ → Option (List ℕ)
marked_at bytes = if bytes_eq (take 4 bytes) mark then Some (drop 4 bytes) else None

-- the lists of a history
unfoldable pub lists_at : ℕ → ℕ → List ℕ → Option (Kept × List ℕ)
lists_at stop newest bytes = do
  positions ← counted_at w32 (number_at w32) bytes
  feeds ← counted_at w32 feed_at positions.1
  ids ← counted_at w64 kept_id_at feeds.1
  Some (
    record {
      stop = stop;
      newest = newest;
      positions = positions.0;
      feeds = feeds.0;
      ids = ids.0;
    },
    ids.1,
  )

-- a history, after which nothing follows
unfoldable pub all_of : List ℕ → Option Kept
all_of bytes = do
  marked ← marked_at bytes
  stop ← number_at w64 marked
  newest ← number_at w64 stop.1
  lists ← lists_at stop.0 newest.0 newest.1
  if length lists.1 == 0 then Some lists.0 else None
