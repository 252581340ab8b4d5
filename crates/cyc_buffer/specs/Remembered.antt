-- What a buffer's memory says of its calls, whatever its store holds: where no history is known
-- that the buffer agrees with, as after a start over a store that nobody vouches for
-- (docs/PROTOCOL.md, Clean stop and start).
use Rattle.std.specs.Prelude.{◌≡◌, ◌<◌, ◌≤◌, ◌⊎◌, ℕ, Bool, true, List, Some, Result, Ok}
use Rattle.std.specs.Prelude.{All, Err}
use Rattle.std.specs.List.{Contains}
use Rattle.cyc_block.specs.declared.store.BlockStore.{Ghosts}
use Rattle.cyc_buffer.specs.Agreement.{buffer_state_of}
use Rattle.cyc_buffer.specs.Answers.{Gone, IsDeviceFault, by_numbers, fault_of}
use Rattle.cyc_buffer.specs.Marks.{is_marked}
use Rattle.cyc_buffer.specs.BufferState as registers
use Rattle.cyc_buffer.specs.declared.answers.BufError.{BufError}
use Rattle.cyc_buffer.specs.declared.answers.BufError.TheVariants as errors
use Rattle.cyc_buffer.specs.declared.answers.FaultKind.TheVariants as kinds
use Rattle.cyc_buffer.specs.declared.answers.Found.{Found}
use Rattle.cyc_buffer.specs.declared.answers.Found.TheVariants as found
use Rattle.cyc_buffer.specs.declared.buffer.Buffer.{Buffer}
use Rattle.cyc_token.specs.Token.{token_view}
use Rattle.cyc_token.specs.declared.Token.{Token}
use Rattle.news_terms.specs.Places as places
use Rattle.news_terms.specs.Places.{on_line, size_of}

-- the number, the blocks and the first cycle that a buffer has
abbrev pub place_of : {S : Type 0} {g : Ghosts S} → Buffer S g → places.Buffer
place_of buffer = registers.buffer_of (buffer_state_of buffer).line

-- the place of its front on the endless line of its blocks
abbrev pub front_in : {S : Type 0} {g : Ghosts S} → Buffer S g → ℕ
front_in buffer =
    let line = (buffer_state_of buffer).line in on_line line.blocks line.cycle line.used

-- a finished article begins at the block, by the buffer's marks
abbrev pub is_start : {S : Type 0} {g : Ghosts S} → Buffer S g → (block : ℕ) → Bool
is_start buffer block = is_marked (buffer_state_of buffer).starts.words.items block

-- finished articles begin at no other blocks than before
abbrev pub AddsNoStart : {S : Type 0} {g : Ghosts S} → (old new : Buffer S g) → Type 0
AddsNoStart old new = (block : ℕ) → is_start new block ≡ true → is_start old block ≡ true

-- finished articles begin at no other blocks than before, and at this one
abbrev pub AddsStart : {S : Type 0} {g : Ghosts S} → (first : ℕ) → (old new : Buffer S g) → Type 0
AddsStart first old new = (block : ℕ) → is_start new block ≡ true
    → (block ≡ first) ⊎ (is_start old block ≡ true)

-- Why an article of so many octets isn't begun in a buffer: it has more blocks, the buffer is worn,
-- or a write is open. It isn't the device, which a begin doesn't call.
abbrev pub IsUnbegun : places.Buffer → (busy : Bool) → (octets : ℕ) → BufError → Type 0
IsUnbegun buffer busy octets errors.TooBig = buffer.blocks < size_of octets
IsUnbegun buffer busy octets (errors.Worn fault) = fault ≡ fault_of buffer kinds.Worn octets
IsUnbegun buffer busy octets errors.Busy = busy ≡ true
IsUnbegun buffer busy octets (errors.Device fault) = ⊥

-- a chunk is found where a finished article begins at the token's first block
pub record IsAtStart {S : Type 0} {g : Ghosts S} (buffer : Buffer S g) (token : Token) : Type 0
  where
    pub marked : is_start buffer token.first ≡ true
    pub within : token.first < (place_of buffer).blocks

-- the device failed at a read of an article that is the buffer's
pub record IsUnreadBy {S : Type 0} {g : Ghosts S} (buffer : Buffer S g) (token : Token)
    (e : BufError) : Type 0 where
  pub fault : IsDeviceFault (place_of buffer) kinds.Read token.length e
  pub number : token.buffer ≡ (place_of buffer).number

-- a read finds a chunk where an article begins, and says what is gone by the numbers
abbrev pub IsFoundBy : {S : Type 0} {g : Ghosts S} → Buffer S g → Token → (k : ℕ)
    → Result Found BufError → Type 0
IsFoundBy buffer token k (Ok (found.Chunk n)) = IsAtStart buffer token
IsFoundBy buffer token k (Ok (found.Gone front)) =
    by_numbers (place_of buffer) (front_in buffer) (token_view token) k ≡ Some (Gone front)
IsFoundBy buffer token k (Ok found.Unknown) = Unit {0}
IsFoundBy buffer token k (Err e) = IsUnreadBy buffer token e

-- one of the tokens is of an article that begins at the block
pub record IsListedAt (tokens : List Token) (block : ℕ) : Type 0 where
  pub token : Token
  pub listed : Contains tokens token
  pub here : token.first ≡ block

-- of the blocks from one up to another, each that is marked is the first one of a listed article
abbrev pub ListsStarts : (from to : ℕ) → (starts : ℕ → Bool) → List Token → Type 0
ListsStarts from to starts tokens =
    (block : ℕ) → from ≤ block → block < to → starts block ≡ true → IsListedAt tokens block

-- the articles of the tokens begin at one of so many blocks
abbrev pub AreWithin : (blocks : ℕ) → List Token → Type 0
AreWithin blocks tokens = All (λ (token : Token). token.first < blocks) tokens
