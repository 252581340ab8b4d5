-- What was read of a device's blocks, in order, of a buffer that was not stopped
-- (docs/PROTOCOL.md, Crashes): what the private functions of pieces.rt, scanning.rt and found.rt
-- promise.
use Rattle.std.specs.Prelude.{◌≡◌, ◌⊎◌, ◌↔◌, ℕ, ◌+◌, ◌-◌, ◌*◌, ◌<◌, ◌≤◌, true, List, [], ◌∷◌}
use Rattle.std.specs.Prelude.{length, Option, None, Some, Result, IfErr, IfOk, OnOk}
use Rattle.std.specs.List.{Contains}
use Rattle.news_terms.specs.Places.{Buffer, size_of, on_line}
use Rattle.news_terms.specs.Token as terms
use Rattle.cyc_block.specs.declared.store.BlockStore.{Ghosts}
use Rattle.cyc_token.specs.Token.{token_view}
use Rattle.cyc_token.specs.declared.Token.{Token}
use Rattle.cyc_buffer.specs.BufferState.{buffer_of, IsUnpassed}
use Rattle.cyc_buffer.specs.Crash.{IsFrontOn, IsPiece, IsReached, IsThere, IsUnused}
use Rattle.cyc_buffer.specs.Crash.{IsStopOf, IsUnfound, ListsFound, end_on_line}
use Rattle.cyc_buffer.specs.Marks.{is_marked}
use Rattle.cyc_buffer.specs.Readings.{ReadsStore}
use Rattle.cyc_buffer.specs.Starting.{blocks_in}
use Rattle.cyc_buffer.specs.Remembered.{AreWithin, ListsStarts}
use Rattle.cyc_buffer.specs.Agreement.{buffer_state_of}
use Rattle.cyc_buffer.specs.declared.buffer.Buffer as code
use Rattle.cyc_buffer.specs.declared.answers.StartError.{StartError}
use Rattle.cyc_buffer.specs.declared.buffer_state.BufferState.{BufferState}
use Rattle.cyc_buffer.specs.declared.stopped.Stopped.{Stopped}
use Rattle.cyc_buffer.specs.declared.line.Line.{Line}

-- the articles follow each other from one block up to another
abbrev pub AreInOrder : (from to : ℕ) → List Token → Type 0
AreInOrder from to [] = from ≤ to
AreInOrder from to (t ∷ ts) = (from ≤ t.first) × AreInOrder (t.first + size_of t.length) to ts

-- the block behind the last one of these articles, which begin from a block on
abbrev pub end_after : (from : ℕ) → List Token → ℕ
end_after from [] = from
end_after from (t ∷ ts) = end_after (t.first + size_of t.length) ts

-- the article is of no cycle before the first, and ends by the front
pub record IsWithin (buffer : Buffer) (cycle used : ℕ) (t : Token) : Type 0 where
  pub begun : buffer.first_cycle ≤ t.cycle
  pub some : 1 ≤ size_of t.length
  pub inside : t.first + size_of t.length ≤ buffer.blocks
  pub ends : end_on_line buffer.blocks (token_view t) ≤ on_line buffer.blocks cycle used

-- the article of which all blocks before block n are there, and more are to come
pub record IsUnderWay (buffer : Buffer) (cycle used n : ℕ) (t : Token) : Type 0 where
  pub within : IsWithin buffer cycle used t
  pub before : t.first < n
  pub behind : n < t.first + size_of t.length

-- an article is under way, or none
abbrev pub IsRun : Buffer → (cycle used n : ℕ) → Option Token → Type 0
IsRun buffer cycle used n None = Unit {0}
IsRun buffer cycle used n (Some t) = IsUnderWay buffer cycle used n t

-- the first block of the article that is under way, or block n
abbrev pub run_start : (n : ℕ) → Option Token → ℕ
run_start n None = n
run_start n (Some t) = t.first

-- What holds of a scan of the blocks before block n, whatever store they are of: this is its front,
-- these articles are whole, and this one is under way.
pub record IsScan (buffer : Buffer) (cycle used : ℕ) (tokens : List Token) (run : Option Token)
    (n : ℕ) : Type 0 where
  pub within : (t : Token) → Contains tokens t → IsWithin buffer cycle used t
  pub order : AreInOrder 0 (run_start n run) tokens
  pub under_way : IsRun buffer cycle used n run
  pub begun : buffer.first_cycle ≤ cycle

-- the device has all blocks of the article under a token that are before block n
abbrev pub HasUpTo : Buffer → (blocks : List (List ℕ)) → terms.Token → (n : ℕ) → Type 0
HasUpTo buffer blocks t n =
    (k : ℕ) → t.first + k < n → k < size_of t.length → IsPiece buffer blocks t k

-- the run is that article, of which the device has all blocks up to block n
abbrev pub HasRun : Buffer → (blocks : List (List ℕ)) → (n : ℕ) → Option Token → Type 0
HasRun buffer blocks n None = Unit {0}
HasRun buffer blocks n (Some t) = HasUpTo buffer blocks (token_view t) n

-- what holds of a scan of an honest store's blocks before block n
pub record HasScanned (buffer : Buffer) (blocks : List (List ℕ)) (cycle used : ℕ)
    (tokens : List Token) (run : Option Token) (n : ℕ) : Type 0 where
  pub reached : IsReached buffer blocks cycle used ⊎ IsUnused buffer cycle used
  pub last : (t : terms.Token) (k : ℕ) → t.first + k < n → IsPiece buffer blocks t k
      → end_on_line buffer.blocks t ≤ on_line buffer.blocks cycle used
  pub listed : (t : Token) → Contains tokens t → IsThere buffer blocks (token_view t)
  pub all : (t : Token) → IsThere buffer blocks (token_view t)
      → t.first + size_of t.length ≤ n → Contains tokens t
  pub under_way : HasRun buffer blocks n run
  pub only : (t : Token) → t.first < n → n < t.first + size_of t.length
      → HasUpTo buffer blocks (token_view t) n → run ≡ Some t

-- the token is one of those that were scanned, of this cycle, and the front hasn't passed it
pub record IsLiveOf (line : Line) (scanned : List Token) (cycle : ℕ) (t : Token) : Type 0 where
  pub found : Contains scanned t
  pub cycle_is : t.cycle ≡ cycle
  pub unpassed : IsUnpassed line t.cycle t.first

-- the block is one of a listed article's
pub record IsOneOf (tokens : List Token) (j : ℕ) : Type 0 where
  pub token : Token
  pub listed : Contains tokens token
  pub behind : token.first ≤ j
  pub before : j < token.first + size_of token.length

-- a listed article begins at the block
pub record IsFirstOf (tokens : List Token) (j : ℕ) : Type 0 where
  pub token : Token
  pub listed : Contains tokens token
  pub here : token.first ≡ j

-- the marks are those of listed articles: of their first blocks, and of each block
pub record AreMarksOf (tokens : List Token) (starts kept : List ℕ) : Type 0 where
  pub firsts : (j : ℕ) → (is_marked starts j ≡ true) ↔ IsFirstOf tokens j
  pub each : (j : ℕ) → (is_marked kept j ≡ true) ↔ IsOneOf tokens j

-- the blocks that the front of a line passed since its first cycle
abbrev pub passed_on : Line → ℕ
passed_on line = (line.cycle - line.first_cycle) * line.blocks + line.used

-- The register of a buffer that was found again: its front, its marks, and its counts, by which
-- each block that is no found article's is a begin of its own.
pub record HasFound (blocks : List (List ℕ)) (buffer : Buffer) (r : BufferState)
    (tokens : List Token) : Type 0 where
  pub buffer_is : buffer_of r.line ≡ buffer
  pub front : IsFrontOn buffer blocks r.line.cycle r.line.used
  pub all : ListsFound buffer blocks r.line.cycle r.line.used tokens
  pub marks : AreMarksOf tokens r.starts.words.items r.kept.words.items
  pub begun : r.counts.begun + blocks_in tokens ≡ passed_on r.line + length tokens
  pub stored : r.counts.stored ≡ length tokens
  pub progress : r.progress ≡ None

-- head block 0 is read once: the number of the stop that it says, where it is this buffer's
pub record ReadsStop {S : Type 0} (g : Ghosts S) (old new : S) (buffer : Buffer)
    (result : Result ℕ StartError) : Type 0 where
  pub stop : g.honest old → IfOk result (λ n. IsStopOf (g.heads old) buffer n)
  pub refused : g.honest old → IfErr result (IsUnfound (g.heads old) buffer)
  pub calls : OnOk result (g.calls new ≡ g.calls old + 1)
  pub reads : ReadsStore g old new result

-- the buffer that wasn't stopped is read, head block 0 and each block once
pub record ReadsFound {S : Type 0} (g : Ghosts S) (old new : S) (buffer : Buffer)
    (result : Result Stopped StartError) : Type 0 where
  pub found : g.honest old → IfOk result (λ stopped. HasFound (g.blocks old) buffer
      stopped.buffer_state stopped.tokens.items)
  pub stop : g.honest old → IfOk result (λ stopped. IsStopOf (g.heads old) buffer stopped.stop)
  pub refused : g.honest old → IfErr result (IsUnfound (g.heads old) buffer)
  pub count : IfOk result (λ stopped. stopped.buffer_state.line.blocks ≡ length (g.blocks old))
  pub idle : IfOk result (λ stopped. stopped.buffer_state.progress ≡ None)
  pub listed : IfOk result (λ stopped. ListsStarts 0 (length (g.blocks old))
      (is_marked stopped.buffer_state.starts.words.items) stopped.tokens.items)
  pub within : IfOk result (λ stopped. AreWithin (length (g.blocks old)) stopped.tokens.items)
  pub calls : IfOk result (λ stopped. g.calls new ≡ g.calls old + 1 + length (g.blocks old))
  pub reads : ReadsStore g old new result

-- the front that a buffer keeps in memory is the one that a device tells of this buffer
abbrev pub HasFrontOn : {S : Type 0} {g : Ghosts S} → code.Buffer S g → Buffer
    → (blocks : List (List ℕ)) → Type 0
HasFrontOn buffer place blocks =
    let line = (buffer_state_of buffer).line in IsFrontOn place blocks line.cycle line.used
