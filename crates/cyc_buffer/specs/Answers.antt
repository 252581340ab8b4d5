-- What a buffer answers (docs/PROTOCOL.md, Writing, Reading).
use Rattle.std.specs.Prelude.{◌≡◌, ◌⊎◌, ℕ, ◌+◌, ◌≤◌, ◌<◌, nat_lt, nat_le, ◌==◌, ◌||◌, not, Bool}
use Rattle.std.specs.Prelude.{true}
use Rattle.std.specs.Prelude.{List, take, length, Option, None, Some, is_some, Result, Ok, Err}
use Rattle.std.specs.Prelude.{if◌then◌else◌}
use Rattle.news_terms.specs.BlockImage.{chunk, chunk_size}
use Rattle.news_terms.specs.Places.{Buffer, IsLive, size_of, on_line, last_cycle}
use Rattle.news_terms.specs.Token.{Token}
use Rattle.cyc_buffer.specs.declared.answers.BufError.{BufError}
use Rattle.cyc_buffer.specs.declared.answers.BufError.TheVariants.{TooBig, Busy, Device}
use Rattle.cyc_buffer.specs.declared.answers.BufError.TheVariants as errors
use Rattle.cyc_buffer.specs.declared.answers.Fault.{Fault}
use Rattle.cyc_buffer.specs.declared.answers.FaultKind.{FaultKind}
use Rattle.cyc_buffer.specs.declared.answers.FaultKind.TheVariants as kinds
use Rattle.cyc_buffer.specs.declared.answers.Found.{Found}
use Rattle.cyc_buffer.specs.declared.answers.Found.TheVariants as found
use Rattle.cyc_buffer.specs.declared.answers.Front.{Front}
use Rattle.cyc_buffer.specs.History.{Article, History, front_of, next_cycle, text_under}
use Rattle.cyc_buffer.specs.History.{finished_at}

-- a fault of a buffer, at a call that spoke of an article of so many octets
abbrev pub fault_of : Buffer → FaultKind → (octets : ℕ) → Fault
fault_of buffer kind octets = record { kind = kind; buffer = buffer.number; length = octets }

-- the first reason to refuse a begin, if there is one: the article has more blocks than the buffer,
-- it would be in a cycle that a token has no room for, or a write is open
abbrev pub refusal : History → (octets : ℕ) → (fresh : Bool) → Option BufError
refusal h octets fresh =
    if nat_lt h.buffer.blocks (size_of octets) then Some TooBig
    else (if nat_lt last_cycle (next_cycle h fresh (size_of octets))
    then Some (errors.Worn (fault_of h.buffer kinds.Worn octets))
    else (if is_some h.writing then Some Busy else None))

-- the error of a result
abbrev pub error_of : {X : Type 0} → Result X BufError → Option BufError
error_of (Ok x) = None
error_of (Err e) = Some e

-- an error of the device: the fault that it carries is of this kind, of this buffer and this length
abbrev pub IsDeviceFault : Buffer → FaultKind → (octets : ℕ) → BufError → Type 0
IsDeviceFault buffer kind octets e = e ≡ Device (fault_of buffer kind octets)

-- what a read is answered
pub data Answer : Type 0 where
  -- these octets are the chunk
  Chunk : List ℕ → Answer
  -- this front has passed the article
  Gone : Front → Answer
  -- nothing was finished under the token, or it has no such chunk
  Unknown : Answer

-- no article of this buffer that was begun can have this token and this block
abbrev pub is_beyond : Buffer → (front : ℕ) → Token → (k : ℕ) → Bool
is_beyond buffer front token k =
    not (token.buffer == buffer.number)
    || token.length == 0
    || nat_lt buffer.blocks (token.first + size_of token.length)
    || nat_le (size_of token.length) k
    || nat_le front (on_line buffer.blocks token.cycle token.first)

-- the front of a buffer, as a value
abbrev pub front_view : Buffer → (front : ℕ) → Front
front_view buffer front = record { buffer = buffer.number; blocks = buffer.blocks; front = front }

-- the answer that the numbers decide, if they do
abbrev pub by_numbers : Buffer → (front : ℕ) → Token → (k : ℕ) → Option Answer
by_numbers buffer front token k =
    if is_beyond buffer front token k then Some Unknown
    else (if nat_lt (on_line buffer.blocks token.cycle token.first + buffer.blocks) front
    then Some (Gone (front_view buffer front))
    else None)

-- the answer by the text that was finished under the token
abbrev pub by_text : (k : ℕ) → Option (List ℕ) → Answer
by_text k None = Unknown
by_text k (Some text) = Chunk (chunk k text)

-- the answer where the numbers give this
abbrev pub or_by_text : Option Answer → Answer → Answer
or_by_text None other = other
or_by_text (Some answer) other = answer

-- the answer to a read of block k of the article under a token
abbrev pub answer : History → Token → (k : ℕ) → Answer
answer h token k =
    or_by_text (by_numbers h.buffer (front_of h) token k) (by_text k (text_under h token))

-- what was found, and the octets at the front of the slice where it is a chunk, are the answer
abbrev pub Shows : Found → List ℕ → Answer → Type 0
Shows (found.Chunk n) slice (Chunk octets) = (n ≡ length octets) × (take n slice ≡ octets)
Shows (found.Chunk n) slice (Gone front) = ⊥
Shows (found.Chunk n) slice Unknown = ⊥
Shows (found.Gone front) slice (Chunk octets) = ⊥
Shows (found.Gone front) slice (Gone passed) = front ≡ passed
Shows (found.Gone front) slice Unknown = ⊥
Shows found.Unknown slice (Chunk octets) = ⊥
Shows found.Unknown slice (Gone front) = ⊥
Shows found.Unknown slice Unknown = Unit {0}

-- a chunk has no more octets than a block holds
abbrev pub HasRoom : Found → Type 0
HasRoom (found.Chunk n) = n ≤ chunk_size
HasRoom (found.Gone front) = Unit {0}
HasRoom found.Unknown = Unit {0}

-- where the numbers don't decide, the article isn't said to be gone
abbrev pub IsOther : Found → Option Answer → Type 0
IsOther (found.Chunk n) (Some answer) = Unit {0}
IsOther (found.Chunk n) None = Unit {0}
IsOther (found.Gone front) (Some answer) = Unit {0}
IsOther (found.Gone front) None = ⊥
IsOther found.Unknown (Some answer) = Unit {0}
IsOther found.Unknown None = Unit {0}

-- the block is one of a finished article's, and the front hasn't passed it
pub record IsLiveBlock (h : History) (block : ℕ) : Type 0 where
  pub cycle : ℕ
  pub first : ℕ
  pub index : ℕ
  pub article : Article
  pub finished : finished_at h.buffer h.begins cycle first ≡ Some article
  pub inside : index < size_of (length article.text)
  pub here : first + index ≡ block
  pub live : IsLive h.buffer.blocks (front_of h) (on_line h.buffer.blocks cycle block)

-- the block is one of a finished article's that is live: the front hasn't passed its first block
pub record IsOfLive (h : History) (block : ℕ) : Type 0 where
  pub block_is : IsLiveBlock h block
  pub whole : IsLive h.buffer.blocks (front_of h)
      (on_line h.buffer.blocks block_is.cycle block_is.first)

-- the numbers decide the answer, or no finished article begins at the token's place,
-- or the block that is asked for is no finished article's
abbrev pub IsUnread : History → Token → (k : ℕ) → Type 0
IsUnread h token k =
    (is_some (by_numbers h.buffer (front_of h) token k) ≡ true)
    ⊎ (finished_at h.buffer h.begins token.cycle token.first ≡ None)
    ⊎ (IsLiveBlock h (token.first + k) → ⊥)

-- the numbers don't decide the answer, a finished article begins at the token's place,
-- and the block that is asked for is one of a live finished article's
pub record IsRead (h : History) (token : Token) (k : ℕ) : Type 0 where
  pub article : Article
  pub undecided : by_numbers h.buffer (front_of h) token k ≡ None
  pub begins : finished_at h.buffer h.begins token.cycle token.first ≡ Some article
  pub block : IsOfLive h (token.first + k)
