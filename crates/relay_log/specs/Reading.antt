-- Reading an entry from left to right (docs/FORMATS.md, Journal file). Each function answers what
-- it read, mostly with the octets after it, or None where nothing can be read.
use Rattle.std.specs.Prelude.{ℕ, zero, suc, ◌+◌, List, [], ◌∷◌, length, take, drop, Option, Some}
use Rattle.std.specs.Prelude.{None, nat_le, ◌==◌, if◌then◌else◌}
use Rattle.std.specs.Int.{w16, w32, w64}
use Rattle.std.specs.Str.{bytes_eq}
use Rattle.news_terms.specs.MessageId.{id_fault}
use Rattle.relay_model.specs.Terms.{last_moment}
use Rattle.id_history.specs.Reading.{◌>>=◌, number_at, token_at, text_at, without_fault}
use Rattle.relay_log.specs.Check.{check}
use Rattle.relay_log.specs.Journal.{Entry, Refused, Stored, Taken, mark}

-- a moment that there is
unfoldable pub moment_at : List ℕ → Option (ℕ × List ℕ)
moment_at bytes = do
  moment ← number_at w64 bytes
  if nat_le moment.0 last_moment then Some moment else None

-- a message-id, after which nothing follows
abbrev pub id_of : List ℕ → Option (List ℕ)
id_of text = without_fault (id_fault text) text

-- an article that was refused
unfoldable pub refused_of : List ℕ → Option Entry
refused_of bytes = do
  moment ← moment_at bytes
  id ← id_of moment.1
  Some (Refused id moment.0)

-- an article that was stored
unfoldable pub stored_of : List ℕ → Option Entry
stored_of bytes = do
  moment ← moment_at bytes
  token ← token_at moment.1
  id ← id_of token.1
  Some (Stored id moment.0 token.0)

-- a take of a feed
unfoldable pub taken_of : List ℕ → Option Entry
taken_of bytes = do
  feed ← number_at w16 bytes
  gained ← number_at w64 feed.1
  passed ← number_at w64 gained.1
  taken ← number_at w64 passed.1
  if length taken.1 == 0 then Some (Taken feed.0 gained.0 passed.0 taken.0) else None

-- what an entry says: its kind, and what the kind has
unfoldable pub said_of : List ℕ → Option Entry
said_of [] = None
said_of (zero ∷ rest) = None
said_of (suc zero ∷ rest) = refused_of rest
said_of (suc (suc zero) ∷ rest) = stored_of rest
said_of (suc (suc (suc zero)) ∷ rest) = taken_of rest
said_of (suc (suc (suc (suc kind))) ∷ rest) = None

-- octets after their number, with their check behind them
unfoldable pub checked_at : List ℕ → Option (List ℕ × List ℕ)
checked_at bytes = do
  n ← number_at w16 bytes
  said ← text_at n.0 n.1
  sum ← number_at w32 said.1
  if sum.0 == check (take (2 + n.0) bytes) then Some (said.0, sum.1) else None

-- an entry
unfoldable pub entry_at : List ℕ → Option (Entry × List ℕ)
entry_at bytes = do
  checked ← checked_at bytes
  entry ← said_of checked.0
  Some (entry, checked.1)

-- the octets after the mark
abbrev pub marked_at : List ℕ → Option (List ℕ)
marked_at bytes = if bytes_eq (take 4 bytes) mark then Some (drop 4 bytes) else None

-- the number of the stop, after the mark
unfoldable pub front_at : List ℕ → Option (ℕ × List ℕ)
front_at bytes = do
  marked ← marked_at bytes
  number_at w64 marked
