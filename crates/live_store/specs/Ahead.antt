-- What was read of an article before it is asked for.
use Rattle.std.specs.Prelude.{◌≡◌, ◌≢◌, ◌⊎◌, ℕ, ◌+◌, ◌-◌, ◌*◌, ◌<◌, ◌≤◌, Bool, true, List}
use Rattle.std.specs.Prelude.{length, min, take}
use Rattle.std.specs.Prelude.{Option, None, Some, Result, Ok, Err, IsSome, IsSomeAnd}
use Rattle.std.specs.Prelude.{nat_le, if◌then◌else◌}
use Rattle.boxcar.specs.Table.{Shelves, Where}
use Rattle.cyc_block.specs.declared.store.BlockStore.{Ghosts}
use Rattle.cyc_buffer.specs.Agreement.{Follows, buffer_state_of}
use Rattle.cyc_buffer.specs.Calls.{ReadsBlock}
use Rattle.cyc_buffer.specs.declared.answers.Fault.{Fault}
use Rattle.cyc_buffer.specs.declared.answers.Found.{Found}
use Rattle.cyc_buffer.specs.declared.buffer.Buffer.{Buffer}
use Rattle.cyc_token.specs.Token.{token_view}
use Rattle.cyc_token.specs.declared.Token.{Token}
use Rattle.live_store.specs.Steps.{IsChunkOf, as_found, buffer_of, found_in, numbers_of, ones_found}
use Rattle.live_store.specs.Steps.{open_write_of}
use Rattle.live_store.specs.declared.ahead.Ahead.{Ahead}
use Rattle.live_store.specs.declared.answers.OneRead.{OneRead}
use Rattle.live_store.specs.declared.answers.OneRead.TheVariants as ones
use Rattle.live_store.specs.declared.answers.Reading.{Reading}
use Rattle.live_store.specs.declared.answers.Reading.TheVariants as readings
use Rattle.live_store.specs.declared.numbered.NumberedBuffer.{NumberedBuffer}
use Rattle.live_store.specs.declared.record.StorePremises as store_premises
use Rattle.live_store.specs.declared.writing.entering.Record.{Record}
use Rattle.news_terms.specs.BlockImage.{chunk, chunk_size}
use Rattle.news_terms.specs.Places.{size_of}

-- how many blocks are read behind block k of an article of so many octets, under one lock: all that
-- it has, at most 127
abbrev pub blocks_behind : (k octets : ℕ) → ℕ
blocks_behind k octets = min (size_of octets - k - 1) 127

-- block k under a token is one of those of which the chunks are there
pub record IsAhead (ahead : Ahead) (token : Token) (k : ℕ) : Type 0 where
  pub named : token ≡ ahead.token
  pub behind : ahead.from ≤ k
  pub there : chunk_size * (k - ahead.from) < length ahead.octets.items

-- the chunk that is there of block k
abbrev pub chunk_ahead : Ahead → (k : ℕ) → List ℕ
chunk_ahead ahead k = chunk (k - ahead.from) ahead.octets.items

-- the chunk of block k is the last one that is there, or none of a block behind it is
abbrev pub ends_with : Ahead → (k : ℕ) → Bool
ends_with ahead k = nat_le (length ahead.octets.items) (chunk_size * (k - ahead.from + 1))

-- what is there once the chunk of block k was given: nothing behind the last one
abbrev pub left_behind : (k : ℕ) → Option Ahead → Option Ahead
left_behind k None = None
left_behind k (Some ahead) = if ends_with ahead k then None else Some ahead

-- each chunk that is there is that of its block of the article under the token, of the record of
-- this number
abbrev pub AreChunksOf : Shelves → Ahead → Where Record → Type 0
AreChunksOf register ahead shown = (i : ℕ) → chunk_size * i < length ahead.octets.items
    → IsChunkOf register (token_view ahead.token) (ahead.from + i) (chunk i ahead.octets.items)
    shown

-- What reads have read ahead: there is a chunk, and they have a record; where the stores are
-- trusted each chunk is of that.
pub record IsReadAhead (trusted : Bool) (register : Shelves) (own : Option (Where Record))
    (ahead : Ahead)
    : Type 0 where
  pub some : 0 < length ahead.octets.items
  pub has : IsSome own
  pub chunks : trusted ≡ true → IsSomeAnd own (AreChunksOf register ahead)

-- what reads that had this record are told of what a read came to
abbrev pub told_of : Result Reading Fault → Option (Where Record) → Result Found Fault
told_of (Ok reading) own = Ok (found_in reading own)
told_of (Err fault) own = Err fault

-- Reads that had this record are told what the buffer's own read of block k came to, whatever comes
-- of the blocks behind it.
pub record IsToldOfRead {S : Type 0} {s : Ghosts S} {J : Type 0} {j : store_premises.Ghosts J}
    (old : NumberedBuffer S J s j) (token : Token) (k : ℕ) (before : List ℕ)
    (own : Option (Where Record)) (result : Result OneRead Fault) (after : List ℕ)
    : Type 0 where
  pub reading : Result Reading Fault
  pub read : Buffer S s
  pub reads : ReadsBlock (buffer_of old) token k before (as_found reading) after read
  pub told : ones_found result ≡ told_of reading own

-- blocks were merely read: the buffer is what it was, in memory too, and so is what stands beside
-- it
pub record WasMerelyRead {S : Type 0} {s : Ghosts S} {J : Type 0} {j : store_premises.Ghosts J}
    (old new : NumberedBuffer S J s j)
    : Type 0 where
  pub same : Follows (λ h. h) (buffer_of old) (buffer_of new)
  pub buffer_state : buffer_state_of (buffer_of new) ≡ buffer_state_of (buffer_of old)
  pub open_write : open_write_of new ≡ open_write_of old
  pub numbers : numbers_of new ≡ numbers_of old

-- What was read ahead of block k is told in the place of a read, and what is behind it stays.
pub record IsGivenAhead (k : ℕ) (ahead : Ahead) (result : Result OneRead Fault)
    (octets : List ℕ) (left : Option Ahead)
    : Type 0 where
  pub count : ℕ
  pub told : result ≡ Ok (ones.Chunk count)
  pub chunk : take count octets ≡ chunk_ahead ahead k
  pub stays : left ≡ left_behind k (Some ahead)

-- what a read of a block is to a record: a chunk of it has so many octets, all else is none of it
abbrev pub IsOfRecord : Where Record → Result Reading Fault → Option ℕ → Type 0
IsOfRecord own (Ok (readings.Chunk octets shown)) result =
    (result ≡ Some octets) ⊎ ((result ≡ None) × (shown.index ≢ own.index))
IsOfRecord own (Ok (readings.Gone front)) result = result ≡ None
IsOfRecord own (Ok (readings.Unknown unfound)) result = result ≡ None
IsOfRecord own (Err fault) result = result ≡ None

-- the buffer's own read of block k came to this chunk of the record, or to none of it
pub record ReadsOfRecord {S : Type 0} {s : Ghosts S} {J : Type 0} {j : store_premises.Ghosts J}
    (old : NumberedBuffer S J s j) (token : Token) (k : ℕ) (own : Where Record)
    (result : Option ℕ)
    : Type 0 where
  pub before : List ℕ
  pub after : List ℕ
  pub reading : Result Reading Fault
  pub read : Buffer S s
  pub reads : ReadsBlock (buffer_of old) token k before (as_found reading) after read
  pub own_one : IsOfRecord own reading result

-- block k is none of the record, or has no octet of it, as the buffer tells that was merely read
-- until then
pub record IsNoneOfRecord {S : Type 0} {s : Ghosts S} {J : Type 0} {j : store_premises.Ghosts J}
    (old : NumberedBuffer S J s j) (token : Token) (k : ℕ) (own : Where Record)
    : Type 0 where
  pub there : NumberedBuffer S J s j
  pub merely : WasMerelyRead old there
  pub told : ReadsOfRecord there token k own None ⊎ ReadsOfRecord there token k own (Some 0)

-- How far blocks of a record are read that follow each other, of so many: to the last of them, to
-- one that isn't full, or to the one before a block that is none of the record.
pub data GoesAsFar {S : Type 0} {s : Ghosts S} {J : Type 0} {j : store_premises.Ghosts J}
    (old : NumberedBuffer S J s j) (own : Where Record) (blocks : ℕ) (ahead : Ahead)
    : Type 0 where
  ToTheLast : length ahead.octets.items ≡ chunk_size * blocks → GoesAsFar old own blocks ahead
  ToAShortOne : (n : ℕ) → chunk_size * n < length ahead.octets.items
      → length ahead.octets.items < chunk_size * (n + 1) → GoesAsFar old own blocks ahead
  ToTheRecordsLast : (n : ℕ) → length ahead.octets.items ≡ chunk_size * n
      → IsNoneOfRecord old ahead.token (ahead.from + n) own → GoesAsFar old own blocks ahead

-- nothing is read behind block k: there is no block, or the next is none of the record
abbrev pub HasNoneBehind
    : {S : Type 0} {s : Ghosts S} {J : Type 0} {j : store_premises.Ghosts J}
    (old : NumberedBuffer S J s j) (own : Where Record) (token : Token) (k : ℕ) → Type 0
HasNoneBehind old own token k =
    (blocks_behind k token.length ≡ 0) ⊎ IsNoneOfRecord old token (k + 1) own
