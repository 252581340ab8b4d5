-- What a read of a block finds, in the words of the relay's fetches (docs/PROTOCOL.md, Reading).
use Rattle.std.specs.Prelude.{◌≡◌, ℕ, ◌<◌, max, true, List, length, take, None, Some}
use Rattle.std.specs.Prelude.{Option, Result, Ok, Err}
use Rattle.cyc_block.specs.declared.store.BlockStore.{Ghosts}
use Rattle.cyc_buffer.specs.declared.answers.BufError.{BufError}
use Rattle.cyc_buffer.specs.declared.answers.FaultKind.TheVariants as kinds
use Rattle.cyc_buffer.specs.declared.answers.Found.{Found}
use Rattle.cyc_buffer.specs.declared.answers.Found.TheVariants as found
use Rattle.cyc_buffer.specs.declared.answers.Front.{Front}
use Rattle.news_terms.specs.BlockImage.{chunk}
use Rattle.news_terms.specs.Places.{Buffer, size_of}
use Rattle.news_terms.specs.Token.{Token}
use Rattle.relay_model.specs.Fetches as fetches
use Rattle.relay_model.specs.Fetches.{Fetched, fetched, decided, front_of, text_under, buffer_of}
use Rattle.relay_model.specs.State.{State, Kept}
use Rattle.relay_model.specs.Terms.{Terms}
use Rattle.relay_model.specs.World.{HasFailedAt}
use Rattle.block_shelf.specs.Calls.{IsFaultAt}
use Rattle.block_shelf.specs.Keeping.{KeepsTexts}
use Rattle.block_shelf.specs.Leaving.{Trust}
use Rattle.block_shelf.specs.Openings.{Opening}
use Rattle.block_shelf.specs.declared.buffer_set.BufferSet.{BufferSet}

-- the front of the buffer that a token names
pub record IsFrontFor (w : Terms) (σ : State) (token : Token) (front : Front) : Type 0 where
  pub buffer : Buffer
  pub named : buffer_of w token ≡ Some buffer
  pub number : front.buffer ≡ buffer.number
  pub blocks : front.blocks ≡ buffer.blocks
  pub front_is : front.front ≡ front_of w σ buffer

-- what was found of block k, with the octets at the front of the slice where it is a chunk, is this
abbrev pub IsFoundOf : Terms → State → Token → (k : ℕ) → Found → (slice : List ℕ) → Fetched
    → Type 0
IsFoundOf w σ token k (found.Chunk n) slice (fetches.Article text) =
    (n ≡ length (chunk k text)) × (take n slice ≡ chunk k text)
IsFoundOf w σ token k (found.Gone front) slice fetches.Gone = IsFrontFor w σ token front
IsFoundOf w σ token k found.Unknown slice fetches.NotKnown = Unit {0}
IsFoundOf w σ token k other slice fetched = ⊥

-- nothing that is whole begins where the token says
abbrev pub IsNowhere : List Kept → Token → Type 0
IsNowhere kept token =
    (class octets : ℕ) → text_under kept (record token { class = class; length = octets }) ≡ None

-- what a read of block k does: it finds what a fetch finds, or the device failed
pub data BlockRead {S : Type 0} {g : Ghosts S} (trusted : Trust) (w : Terms) (σ : State)
    (openings : ℕ → Option Opening) (failures : ℕ → ℕ) (token : Token) (k : ℕ)
    (result : Result Found BufError) (after : List ℕ) (new : BufferSet S g)
    : Type 0 where
  -- It finds what a fetch finds, over stores that are trusted; over any, where the numbers decide
  -- or nothing whole begins there.
  HasFound : (one : Found) → result ≡ Ok one
      → KeepsTexts trusted new w σ.begun σ.kept openings failures
      → (trusted.honest ≡ true → IsFoundOf w σ token k one after (fetched w σ token))
      → ((what : Fetched) → decided w σ token ≡ Some what → IsFoundOf w σ token k one after what)
      → (IsNowhere σ.kept token → IsFoundOf w σ token k one after (fetched w σ token))
      → BlockRead trusted w σ openings failures token k result after new
  -- The device failed, which it was asked only where the numbers don't decide and something whole
  -- begins there.
  HasNotFound : (e : BufError) (later : ℕ → ℕ) → result ≡ Err e → IsFaultAt kinds.Read token e
      → KeepsTexts trusted new w σ.begun σ.kept openings later
      → HasFailedAt token.buffer failures later → decided w σ token ≡ None
      → (IsNowhere σ.kept token → ⊥)
      → BlockRead trusted w σ openings failures token k result after new

-- block k of what lies under a token is read; the article has a block k, or k is 0
abbrev pub ReadsOn : {S : Type 0} {g : Ghosts S} → Token → (k : ℕ) → (old : BufferSet S g)
    → Result Found BufError → (after : List ℕ) → (new : BufferSet S g) → Type 0
ReadsOn token k old result after new =
    (trusted : Trust) (w : Terms) (σ : State) (openings : ℕ → Option Opening) (failures : ℕ → ℕ)
    → KeepsTexts trusted old w σ.begun σ.kept openings failures
    → k < max 1 (size_of token.length)
    → BlockRead trusted w σ openings failures token k result after new

-- the answer is the front of this buffer, if there is such a buffer
abbrev pub IsFrontAt : Terms → State → Option Buffer → Option Front → Type 0
IsFrontAt w σ None answer = answer ≡ None
IsFrontAt w σ (Some buffer) answer =
    answer ≡ Some (record {
      buffer = buffer.number;
      blocks = buffer.blocks;
      front = front_of w σ buffer;
    })
