-- What the steps under a buffer's lock answer.
use Rattle.std.specs.Prelude.{◌≡◌, ℕ, ◌+◌, ◌<◌, ◌≤◌, Bool, false, List, length, take, Option}
use Rattle.std.specs.Prelude.{true, None, Some, Result, Ok, Err, is_none, IsSome, IsSomeAnd}
use Rattle.std.specs.Prelude.{◌==◌, if◌then◌else◌}
use Rattle.std.specs.Prelude.{IfErr, IfOk, IfSome}
use Rattle.boxcar.specs.Table.{Shelves, Where, Shows}
use Rattle.cyc_block.specs.declared.store.BlockStore.{Ghosts}
use Rattle.cyc_buffer.specs.Agreement.{CanWrite, length_of, token_of}
use Rattle.cyc_buffer.specs.Answers.{HasRoom}
use Rattle.cyc_buffer.specs.Calls.{ReadsBlock, WritesNext, LeavesDevice}
use Rattle.cyc_buffer.specs.declared.answers.BufError.{BufError}
use Rattle.cyc_buffer.specs.declared.answers.BufError.TheVariants as errors
use Rattle.cyc_buffer.specs.declared.answers.Fault.{Fault}
use Rattle.cyc_buffer.specs.declared.answers.FaultKind.TheVariants as kinds
use Rattle.cyc_buffer.specs.declared.answers.Found.{Found}
use Rattle.cyc_buffer.specs.declared.answers.Found.TheVariants as found
use Rattle.cyc_buffer.specs.declared.answers.Front.{Front}
use Rattle.cyc_buffer.specs.declared.buffer.Buffer.{Buffer}
use Rattle.cyc_token.specs.Token.{token_view}
use Rattle.cyc_token.specs.declared.Token as codes
use Rattle.live_store.specs.Causes.{cause_of, IsCauseAt, IsNowhere}
use Rattle.live_store.specs.Handles.{conflict_in}
use Rattle.live_store.specs.declared.answers.OneRead.{OneRead}
use Rattle.live_store.specs.declared.answers.OneRead.TheVariants as ones
use Rattle.live_store.specs.declared.answers.Reading.{Reading}
use Rattle.live_store.specs.declared.answers.Reading.TheVariants as readings
use Rattle.live_store.specs.declared.answers.WriteFault.{WriteFault}
use Rattle.live_store.specs.declared.answers.WriteFault.TheVariants as writes
use Rattle.live_store.specs.declared.open_write.OpenWrite.{OpenWrite}
use Rattle.live_store.specs.declared.numbered.NumberedBuffer.{NumberedBuffer}
use Rattle.live_store.specs.declared.record.StorePremises as store_premises
use Rattle.live_store.specs.declared.steps.handles.ConflictCause.TheVariants as conflicts
use Rattle.live_store.specs.declared.steps.unfound.UnfoundCause.TheVariants as causes
use Rattle.live_store.specs.declared.writing.entering.Record.{Record}
use Rattle.live_store.specs.Tied.{token_in, text_in, number_at, IsNamed}
use Rattle.news_terms.specs.BlockImage.{chunk, chunk_size}
use Rattle.news_terms.specs.Places.{IsGone, size_of, on_line}
use Rattle.news_terms.specs.Token.{Token}

-- the buffer that lies under the lock
abbrev pub buffer_of : {S : Type 0} {s : Ghosts S} {J : Type 0} {j : store_premises.Ghosts J}
    → NumberedBuffer S J s j → Buffer S s
buffer_of numbered = numbered.buffer

-- what stands beside it
abbrev pub open_write_of : {S : Type 0} {s : Ghosts S} {J : Type 0} {j : store_premises.Ghosts J}
    → NumberedBuffer S J s j → Option OpenWrite
open_write_of numbered = numbered.open_write

-- the numbers that stand at its blocks
abbrev pub numbers_of : {S : Type 0} {s : Ghosts S} {J : Type 0} {j : store_premises.Ghosts J}
    → NumberedBuffer S J s j → List (Option (Where Record))
numbers_of numbered = numbered.numbers.items

-- a write that is begun under this token: it has no number yet, and no block of it is written
pub record IsBegunAs (token : codes.Token) (b : OpenWrite) : Type 0 where
  pub named : token_of b.write ≡ token
  pub unnumbered : b.shown ≡ None
  pub none_written : b.written ≡ 0
  pub unbroken : b.broken ≡ false

-- the next block of an open write can be written for a record: no write of a block failed, it is
-- the record's, a block of it is left, and the record's text is as long as the article
pub record CanWriteFor (b : OpenWrite) (shown : Where Record) : Type 0 where
  pub unbroken : b.broken ≡ false
  pub named : IsNamed b.write b.shown shown
  pub left : b.written < size_of (length_of b.write)
  pub octets : length (text_in shown) ≡ length_of b.write

-- an open write can be finished for a record: no write of a block failed, it has the record's
-- number, and all of it is written
pub record CanFinishFor (b : OpenWrite) (shown : Where Record) : Type 0 where
  pub unbroken : b.broken ≡ false
  pub begun : is_none b.shown ≡ false
  pub named : IsNamed b.write b.shown shown
  pub written : b.written ≡ size_of (length_of b.write)

-- the open write is the record's
abbrev pub IsOfWrite : OpenWrite → Where Record → Type 0
IsOfWrite b shown = IsNamed b.write b.shown shown

-- what stands beside a buffer after the write of a block: the same write with the record's number,
-- of which one more block is written, or of which a write has failed
abbrev pub after_write : Where Record → Result Bool BufError → OpenWrite → OpenWrite
after_write shown (Ok last) b =
    record { write = b.write; shown = Some shown; written = b.written + 1; broken = false }
after_write shown (Err e) b =
    record { write = b.write; shown = Some shown; written = b.written; broken = true }

-- the open write is the record's by its number and has its token, and the next block of the text is
-- written for it, or the device fails; either way it stays open
pub record WritesRecord {S : Type 0} {s : Ghosts S} {J : Type 0} {j : store_premises.Ghosts J}
    (old : NumberedBuffer S J s j) (shown : Where Record) (text : List ℕ)
    (result : Result Bool BufError) (new : NumberedBuffer S J s j)
    : Type 0 where
  pub open_write : OpenWrite
  pub stood : open_write_of old ≡ Some open_write
  pub own : CanWriteFor open_write shown
  pub named : token_view (token_of open_write.write) ≡ token_in shown
  pub can : CanWrite (buffer_of old) open_write.write text
  pub writes : WritesNext (buffer_of old) open_write.write text result (buffer_of new)
  pub device : LeavesDevice (buffer_of old) result (buffer_of new)
  pub stands : open_write_of new ≡ Some (after_write shown result open_write)
  pub numbers : numbers_of new ≡ numbers_of old

-- the record's next block is written, or the device fails; or the write is in conflict, and nothing
-- is changed
abbrev pub WritesOrConflicts
    : {S : Type 0} {s : Ghosts S} {J : Type 0} {j : store_premises.Ghosts J}
    (old : NumberedBuffer S J s j) (shown : Where Record) (text : List ℕ) → Result Bool WriteFault
    → (new : NumberedBuffer S J s j) → Type 0
WritesOrConflicts old shown text (Ok last) new = WritesRecord old shown text (Ok last) new
WritesOrConflicts old shown text (Err (writes.Device fault)) new =
    WritesRecord old shown text (Err (errors.Device fault)) new
WritesOrConflicts old shown text (Err (writes.Conflict conflict)) new = new ≡ old

-- the fault is the device's at a write of an article of so many octets
abbrev pub IsWriteFaultOf : (octets : ℕ) → Fault → Type 0
IsWriteFaultOf octets fault = (fault.kind ≡ kinds.Write) × (fault.length ≡ octets)

-- the fault that the write of a block carries, where it does, is of the text; else the open write
-- is in conflict
abbrev pub IsWriteFault : (text : List ℕ) → WriteFault → Type 0
IsWriteFault text (writes.Device fault) = IsWriteFaultOf (length text) fault
IsWriteFault text (writes.Conflict conflict) = conflict_in conflict ≡ conflicts.Write

-- the open write isn't the record's, or no further block of it can be written
abbrev pub IsConflict : WriteFault → Type 0
IsConflict (writes.Device fault) = ⊥
IsConflict (writes.Conflict conflict) = Unit {0}

-- a begin of an article of so many octets isn't refused by the device, and the fault that a worn
-- buffer carries is of it
abbrev pub IsBeginFault : (octets : ℕ) → BufError → Type 0
IsBeginFault octets errors.TooBig = Unit {0}
IsBeginFault octets (errors.Worn fault) = (fault.kind ≡ kinds.Worn) × (fault.length ≡ octets)
IsBeginFault octets errors.Busy = Unit {0}
IsBeginFault octets (errors.Device fault) = ⊥

-- what a reading is without its number, as the buffer answers it
abbrev pub as_found : Result Reading Fault → Result Found BufError
as_found (Ok (readings.Chunk n shown)) = Ok (found.Chunk n)
as_found (Ok (readings.Gone front)) = Ok (found.Gone front)
as_found (Ok (readings.Unknown unfound)) = Ok found.Unknown
as_found (Err fault) = Err (errors.Device fault)

-- these octets are chunk k of the text of the record of this number, which has the token
pub record IsChunkOf (register : Shelves) (token : Token) (k : ℕ) (octets : List ℕ)
    (shown : Where Record)
    : Type 0 where
  pub shows : Shows register shown
  pub named : token_in shown ≡ token
  pub length : length (text_in shown) ≡ token.length
  pub inside : k < size_of token.length
  pub chunk : octets ≡ chunk k (text_in shown)

-- the octets at the front of the slice are a chunk of the record that the read names
abbrev pub IsReading : Shelves → Token → (k : ℕ) → List ℕ → Reading → Type 0
IsReading register token k slice (readings.Chunk n shown) =
    IsChunkOf register token k (take n slice) shown
IsReading register token k slice (readings.Gone front) = Unit {0}
IsReading register token k slice (readings.Unknown unfound) = Unit {0}

-- the number that a read gave is one of the register
abbrev pub IsShown : Shelves → Reading → Type 0
IsShown register (readings.Chunk n shown) = Shows register shown
IsShown register (readings.Gone front) = Unit {0}
IsShown register (readings.Unknown unfound) = Unit {0}

-- a chunk's number is the one that stands at this block
abbrev pub IsNumberedAt : List (Option (Where Record)) → (block : ℕ) → Reading → Type 0
IsNumberedAt numbers block (readings.Chunk n shown) = number_at numbers block ≡ Some shown
IsNumberedAt numbers block (readings.Gone front) = Unit {0}
IsNumberedAt numbers block (readings.Unknown unfound) = Unit {0}

-- a chunk has no more octets than a block holds
abbrev pub HasOctets : Reading → Type 0
HasOctets (readings.Chunk n shown) = n ≤ chunk_size
HasOctets (readings.Gone front) = Unit {0}
HasOctets (readings.Unknown unfound) = Unit {0}

-- this front of the token's buffer has passed the article that the token is of
pub record IsGoneBy (front : Front) (token : Token) : Type 0 where
  pub number : front.buffer ≡ token.buffer
  pub some : 0 < token.length
  pub within : token.first + size_of token.length ≤ front.blocks
  pub passed : IsGone front.blocks front.front (on_line front.blocks token.cycle token.first)

-- what is said to be gone is so by the front
abbrev pub IsPassed : Token → Reading → Type 0
IsPassed token (readings.Chunk n shown) = Unit {0}
IsPassed token (readings.Gone front) = IsGoneBy front token
IsPassed token (readings.Unknown unfound) = Unit {0}

-- what was found is a chunk of the record that the reads are of
abbrev pub IsFoundIn : Shelves → Token → (k : ℕ) → List ℕ → Option (Where Record) → Found → Type 0
IsFoundIn register token k slice own (found.Chunk n) =
    IsSomeAnd own (IsChunkOf register token k (take n slice))
IsFoundIn register token k slice own (found.Gone front) = Unit {0}
IsFoundIn register token k slice own found.Unknown = Unit {0}

-- a buffer's read that found none says so of the block that was asked for
abbrev pub IsUnfoundAt : (k : ℕ) → Reading → Type 0
IsUnfoundAt k (readings.Chunk n shown) = Unit {0}
IsUnfoundAt k (readings.Gone front) = Unit {0}
IsUnfoundAt k (readings.Unknown unfound) = cause_of unfound ≡ causes.NoChunk k

-- what was found, without the cause where that is nothing
abbrev pub one_found : OneRead → Found
one_found (ones.Chunk n) = found.Chunk n
one_found (ones.Gone front) = found.Gone front
one_found (ones.Unknown unfound) = found.Unknown

-- the same of a read that may fail
abbrev pub ones_found : Result OneRead Fault → Result Found Fault
ones_found (Ok one) = Ok (one_found one)
ones_found (Err fault) = Err fault

-- where nothing was found it is for a cause of a read of block k, by reads that had this record
abbrev pub IsOneUnfound : (k : ℕ) → Option (Where Record) → OneRead → Type 0
IsOneUnfound k own (ones.Chunk n) = Unit {0}
IsOneUnfound k own (ones.Gone front) = Unit {0}
IsOneUnfound k own (ones.Unknown unfound) = IsCauseAt k own (cause_of unfound)

-- where nothing was found as no buffer is the token's, there are only so many
abbrev pub IsOneNowhere : (count : ℕ) → Token → OneRead → Type 0
IsOneNowhere count token (ones.Chunk n) = Unit {0}
IsOneNowhere count token (ones.Gone front) = Unit {0}
IsOneNowhere count token (ones.Unknown unfound) = IsNowhere count token (cause_of unfound)

-- a chunk is out of one of so many buffers, that of the token's number
abbrev pub IsOneThere : (count : ℕ) → Token → OneRead → Type 0
IsOneThere count token (ones.Chunk n) = token.buffer < count
IsOneThere count token (ones.Gone front) = Unit {0}
IsOneThere count token (ones.Unknown unfound) = Unit {0}

-- what a reading is to reads that had this record: a chunk of another one is none
abbrev pub found_in : Reading → Option (Where Record) → Found
found_in (readings.Chunk n shown) None = found.Chunk n
found_in (readings.Chunk n shown) (Some own) =
    if shown.index == own.index then found.Chunk n else found.Unknown
found_in (readings.Gone front) own = found.Gone front
found_in (readings.Unknown unfound) own = found.Unknown

-- with a chunk the reads have a record; else theirs is the one that it was
abbrev pub IsRecordAfter : Result Found Fault → (old new : Option (Where Record)) → Type 0
IsRecordAfter (Ok (found.Chunk n)) old new = IsSome new
IsRecordAfter (Ok (found.Gone front)) old new = new ≡ old
IsRecordAfter (Ok found.Unknown) old new = new ≡ old
IsRecordAfter (Err fault) old new = new ≡ old

-- what was found to be gone is so by the front
abbrev pub IsFoundGone : Token → Found → Type 0
IsFoundGone token (found.Chunk n) = Unit {0}
IsFoundGone token (found.Gone front) = IsGoneBy front token
IsFoundGone token found.Unknown = Unit {0}

-- What reads that had the record `old` are told of a reading: a chunk of their record, which they
-- have from then on, is one; what is gone is so; and what is none is so for its cause.
pub record TellsRead (register : Shelves) (reading : Reading) (old : Option (Where Record))
    (one : OneRead) (new : Option (Where Record))
    : Type 0 where
  pub told : one_found one ≡ found_in reading old
  pub chunk : (token : Token) (k : ℕ) (slice : List ℕ) → IsReading register token k slice reading
      → IsFoundIn register token k slice new (one_found one)
  pub kept : IfSome old (λ w. new ≡ Some w)
  pub after : IsRecordAfter (Ok (one_found one)) old new
  pub room : HasOctets reading → HasRoom (one_found one)
  pub gone : (token : Token) → IsPassed token reading → IsFoundGone token (one_found one)

-- the fault is the device's at a read of the token's article
abbrev pub IsReadFault : Token → Fault → Type 0
IsReadFault token fault =
    fault ≡ record { kind = kinds.Read; buffer = token.buffer; length = token.length }

-- What a read of block k under a token comes to, with the number that stands at the token's first
-- block: a chunk is that of the number's record, which has the token; it is the buffer's own read,
-- and what stands beside the buffer stays.
pub record ReadsNumbered {S : Type 0} {s : Ghosts S} {J : Type 0} {j : store_premises.Ghosts J}
    (trusted : Bool) (register : Shelves) (old : NumberedBuffer S J s j) (token : codes.Token)
    (k : ℕ) (before : List ℕ) (result : Result Reading Fault) (after : List ℕ)
    (new : NumberedBuffer S J s j)
    : Type 0 where
  pub chunk : trusted ≡ true → IfOk result (IsReading register (token_view token) k after)
  pub shown : IfOk result (IsShown register)
  pub number : IfOk result (IsNumberedAt (numbers_of old) token.first)
  pub room : IfOk result HasOctets
  pub gone : IfOk result (IsPassed (token_view token))
  pub unknown : IfOk result (IsUnfoundAt k)
  pub fault : IfErr result (IsReadFault (token_view token))
  pub reads : ReadsBlock (buffer_of old) token k before (as_found result) after (buffer_of new)
  pub open_write : open_write_of new ≡ open_write_of old
  pub numbers : numbers_of new ≡ numbers_of old

-- the device failed
abbrev pub IsDevice : BufError → Type 0
IsDevice (errors.Device fault) = Unit {0}
IsDevice errors.TooBig = ⊥
IsDevice (errors.Worn fault) = ⊥
IsDevice errors.Busy = ⊥
