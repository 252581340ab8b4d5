-- What a begin, a write of a block, a finish and an abandon do to what the buffer set keeps. The
-- calls are total: what each needs stands as a premise, in the relay's own words. A block that
-- can't be written, and an article that can't be finished, is refused by name.
use Rattle.std.specs.Prelude.{◌≡◌, ℕ, ◌+◌, ◌==◌, ◌≤◌, ◌<◌, Bool, List, [], ◌∷◌, ◌++◌, length}
use Rattle.std.specs.Prelude.{slice_get, IsOkAnd, IsSomeAnd}
use Rattle.std.specs.Prelude.{Option, None, Some, option_and_then, Result, Ok, Err}
use Rattle.cyc_block.specs.declared.store.BlockStore.{Ghosts}
use Rattle.cyc_buffer.specs.Agreement as buffers
use Rattle.cyc_buffer.specs.Answers.{IsDeviceFault}
use Rattle.cyc_buffer.specs.Remembered.{place_of}
use Rattle.cyc_buffer.specs.declared.answers.BufError.{BufError}
use Rattle.cyc_buffer.specs.declared.answers.BufError.TheVariants.{Device}
use Rattle.cyc_buffer.specs.declared.answers.FaultKind.{FaultKind}
use Rattle.cyc_buffer.specs.declared.answers.FaultKind.TheVariants as kinds
use Rattle.cyc_token.specs.Token.{token_view}
use Rattle.cyc_token.specs.declared.Token as codes
use Rattle.news_terms.specs.Courses.{Course, place_next}
use Rattle.news_terms.specs.Fronts.{FitsGroup}
use Rattle.news_terms.specs.Places.{Group, Place, size_of, last_cycle}
use Rattle.news_terms.specs.Token.{Token}
use Rattle.relay_model.specs.State.{Kept, put_at}
use Rattle.relay_model.specs.Terms.{Terms}
use Rattle.relay_model.specs.World.{HasFailedAt}
use Rattle.relay_model.specs.Writers.{begun_in}
use Rattle.block_shelf.specs.Devices.{calls_at}
use Rattle.block_shelf.specs.Keeping.{KeepsTexts}
use Rattle.block_shelf.specs.Leaving.{Trust}
use Rattle.block_shelf.specs.Openings.{Opening, IsOpen, IsBroken, token_in}
use Rattle.block_shelf.specs.declared.buffer_set.Begun.{Begun}
use Rattle.block_shelf.specs.declared.buffer_set.BufferSet.{BufferSet}
use Rattle.block_shelf.specs.declared.buffer_set.WriteError.{WriteError}
use Rattle.block_shelf.specs.declared.buffer_set.WriteError.TheVariants as errors

-- the token that a begun article is finished under
abbrev pub token_of : Begun → Token
token_of begun = token_view (buffers.token_of begun.open)

-- an article of so many blocks can begin in this group: the group is there, has no open write, and
-- each of its buffers has room for it
pub record CanBegin (w : Terms) (g size : ℕ) (openings : ℕ → Option Opening) : Type 0 where
  pub group : Group
  pub there : slice_get w.groups g ≡ Some group
  pub free : openings g ≡ None
  pub some : 1 ≤ size
  pub fits : FitsGroup group size

-- where the next article of a group on this course goes
abbrev pub place_in : Terms → (g : ℕ) → Course → (size : ℕ) → Option Place
place_in w g begun size =
    option_and_then (λ (group : Group). place_next group begun size) (slice_get w.groups g)

-- the token of an article of this class and length at a place
abbrev pub token_at : (class octets : ℕ) → Place → Token
token_at class octets place =
    record {
      class = class;
      buffer = place.buffer.number;
      cycle = place.cycle;
      first = place.first;
      length = octets;
    }

-- a begin at this place: where a token has room for its cycle the article is begun, else nothing
-- that is kept changes
abbrev pub BegunAs : {S : Type 0} {g : Ghosts S} → (trusted : Trust) → Terms → (h class octets : ℕ)
    → (ℕ → Course) → List Kept → (ℕ → Option Opening) → (ℕ → ℕ) → Place → Option Begun
    → (new : BufferSet S g) → Type 0
BegunAs trusted w h class octets begun kept openings failures place None new =
    (last_cycle < place.cycle) × KeepsTexts trusted new w begun kept openings failures
BegunAs trusted w h class octets begun kept openings failures place (Some one) new =
    (place.cycle ≤ last_cycle) × (token_of one ≡ token_at class octets place)
    × ((text : List ℕ) → length text ≡ octets
    → KeepsTexts trusted new w
    (put_at begun h (begun_in (slice_get w.groups h) (begun h) (size_of octets))) kept
    (put_at openings h (Some (IsOpen (token_of one) text 0))) failures)

-- all that the buffer set keeps, with whatever state, it still keeps
abbrev pub KeepsAll : {S : Type 0} {g : Ghosts S} → (old new : BufferSet S g) → Type 0
KeepsAll old new =
    (trusted : Trust) (w : Terms) (begun : ℕ → Course) (kept : List Kept)
    (openings : ℕ → Option Opening) (failures : ℕ → ℕ)
    → KeepsTexts trusted old w begun kept openings failures
    → KeepsTexts trusted new w begun kept openings failures

-- an article of this class and length is begun in group h
abbrev pub BeginsOn : {S : Type 0} {g : Ghosts S} → (h class octets : ℕ) → (old : BufferSet S g)
    → Option Begun → (new : BufferSet S g) → Type 0
BeginsOn h class octets old result new =
    (trusted : Trust) (w : Terms) (begun : ℕ → Course) (kept : List Kept)
    (openings : ℕ → Option Opening) (failures : ℕ → ℕ)
    → KeepsTexts trusted old w begun kept openings failures
    → CanBegin w h (size_of octets) openings
    → (place : Place) × (place_in w h (begun h) (size_of octets) ≡ Some place)
    × BegunAs trusted w h class octets begun kept openings failures place result new

-- an error is a fault of this kind of the device of the token's buffer, at an article of its length
abbrev pub IsFaultAt : FaultKind → Token → BufError → Type 0
IsFaultAt kind token e =
    e ≡ Device (record { kind = kind; buffer = token.buffer; length = token.length })

-- a write of a block of group h's open write: one more is written, and whether it was the last is
-- said; or the device failed
abbrev pub WrittenAs : {S : Type 0} {g : Ghosts S} → (trusted : Trust) → Terms → (h : ℕ) → Token
    → (text : List ℕ) → (written : ℕ) → (ℕ → Course) → List Kept → (ℕ → Option Opening) → (ℕ → ℕ)
    → Result Bool WriteError → (new : BufferSet S g) → Type 0
WrittenAs trusted w h token text written begun kept openings failures (Ok last) new =
    (last ≡ (written + 1 == size_of (length text)))
    × KeepsTexts trusted new w begun kept
    (put_at openings h (Some (IsOpen token text (written + 1)))) failures
WrittenAs trusted w h token text written begun kept openings failures (Err errors.NotOpen) new = ⊥
WrittenAs trusted w h token text written begun kept openings failures (Err (errors.Failed e)) new =
    IsFaultAt kinds.Write token e
    × ((later : ℕ → ℕ) × HasFailedAt token.buffer failures later
    × KeepsTexts trusted new w begun kept (put_at openings h (Some (IsBroken token))) later)

-- the next block of the open write under this token is written, whichever group has it, by one call
-- of its buffer's device
abbrev pub WritesOn : {S : Type 0} {g : Ghosts S} → Token → (text : List ℕ) → (old : BufferSet S g)
    → Result Bool WriteError → (new : BufferSet S g) → Type 0
WritesOn token text old result new =
    (trusted : Trust) (w : Terms) (begun : ℕ → Course) (kept : List Kept)
    (openings : ℕ → Option Opening) (failures : ℕ → ℕ)
    → KeepsTexts trusted old w begun kept openings failures
    → (h written : ℕ) → openings h ≡ Some (IsOpen token text written)
    → written < size_of (length text)
    → WrittenAs trusted w h token text written begun kept openings failures result new
    × (calls_at new token.buffer ≡ calls_at old token.buffer + 1)

-- the next block of a text can be written to a begun article: the buffer of its token is here, and
-- can write it to the open write of this handle
abbrev pub CanWrite : {S : Type 0} {g : Ghosts S} → BufferSet S g → Begun → (text : List ℕ)
    → Type 0
CanWrite buffer_set begun text =
    IsSomeAnd (slice_get buffer_set.buffers.items (token_of begun).buffer)
    (λ code. buffers.CanWrite code begun.open text)

-- a block is written by one call of the device where it can be written, or that call fails; else it
-- is said that it can't, and nothing is done
abbrev pub WritesWhereItCan : {S : Type 0} {g : Ghosts S} → Begun → (text : List ℕ)
    → (old : BufferSet S g) → Result Bool WriteError → (new : BufferSet S g) → Type 0
WritesWhereItCan begun text old (Ok last) new =
    CanWrite old begun text
    × (calls_at new (token_of begun).buffer ≡ calls_at old (token_of begun).buffer + 1)
WritesWhereItCan begun text old (Err errors.NotOpen) new =
    (CanWrite old begun text → ⊥) × (new ≡ old)
WritesWhereItCan begun text old (Err (errors.Failed e)) new =
    CanWrite old begun text
    × IsSomeAnd (slice_get old.buffers.items (token_of begun).buffer)
    (λ code. IsDeviceFault (place_of code) kinds.Write (token_of begun).length e)
    × (calls_at new (token_of begun).buffer ≡ calls_at old (token_of begun).buffer + 1)

-- the open write under this token, all of which is written, is finished under it and becomes whole
abbrev pub FinishesOn : {S : Type 0} {g : Ghosts S} → Token → (old : BufferSet S g)
    → Result codes.Token Begun → (new : BufferSet S g) → Type 0
FinishesOn token old result new =
    (trusted : Trust) (w : Terms) (begun : ℕ → Course) (kept : List Kept)
    (openings : ℕ → Option Opening) (failures : ℕ → ℕ)
    → KeepsTexts trusted old w begun kept openings failures
    → (h : ℕ) (text id : List ℕ)
    → openings h ≡ Some (IsOpen token text (size_of (length text)))
    → IsOkAnd result (λ finished. token_view finished ≡ token)
    × KeepsTexts trusted new w begun
    (kept ++ record { token = token; id = id; text = text } ∷ []) (put_at openings h None) failures

-- a begun article can be finished: the buffer of its token is here, and can finish the open write
-- of this handle
abbrev pub CanFinish : {S : Type 0} {g : Ghosts S} → BufferSet S g → Begun → Type 0
CanFinish buffer_set begun =
    IsSomeAnd (slice_get buffer_set.buffers.items (token_of begun).buffer)
    (λ code. buffers.CanFinish code begun.open)

-- an article is finished where it can be; else it is given back, and nothing is done
abbrev pub FinishesWhereItCan : {S : Type 0} {g : Ghosts S} → Begun → (old : BufferSet S g)
    → Result codes.Token Begun → (new : BufferSet S g) → Type 0
FinishesWhereItCan begun old (Ok token) new = CanFinish old begun
FinishesWhereItCan begun old (Err back) new =
    (CanFinish old begun → ⊥) × (back ≡ begun) × (new ≡ old)

-- the open write under this token is given up
abbrev pub AbandonsOn : {S : Type 0} {g : Ghosts S} → Token → (old new : BufferSet S g) → Type 0
AbandonsOn token old new =
    (trusted : Trust) (w : Terms) (begun : ℕ → Course) (kept : List Kept)
    (openings : ℕ → Option Opening) (failures : ℕ → ℕ)
    → KeepsTexts trusted old w begun kept openings failures
    → (h : ℕ) (one : Opening) → openings h ≡ Some one → token_in one ≡ token
    → KeepsTexts trusted new w begun kept (put_at openings h None) failures
