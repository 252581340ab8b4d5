-- What is left where a buffer is added, and why none is.
use Rattle.std.proofs.Common.{◌≡◌, ◌∙◌, ℕ, ◌+◌, Bool, true, List, Some, Result, Ok, Err, IfErr}
use Rattle.std.proofs.Common.{IfOk}
use Rattle.std.proofs.Common.{ap, length, slice_get, subst, sym}
use Rattle.std.specs.Prelude.{IsErr, IsErrAnd}
use Rattle.cyc_block.specs.declared.store.BlockStore.{Ghosts}
use Rattle.cyc_buffer.specs.Agreement.{Agrees, store_of}
use Rattle.cyc_buffer.specs.Head.{LeavesBlocks}
use Rattle.cyc_buffer.specs.History.{History, new_history}
use Rattle.cyc_buffer.specs.Starting.{IsOutside}
use Rattle.cyc_buffer.specs.Stopped.{HoldsStopped}
use Rattle.cyc_buffer.specs.declared.answers.StartError.{StartError}
use Rattle.cyc_buffer.specs.declared.answers.StartError.TheVariants as starts
use Rattle.cyc_buffer.specs.declared.buffer.Buffer.{Buffer}
use Rattle.news_terms.specs.HeadBlocks.{head_blocks}
use Rattle.news_terms.specs.Places as places
use Rattle.relay_adding.specs.Making.{IsAddedOver, IsUnadded}
use Rattle.block_shelf.specs.Filling.{IsRefusalOver}
use Rattle.block_shelf.specs.Starting.{IsFromOutside, buffer_over, fault_of_start}
use Rattle.block_shelf.specs.declared.filling.BufferSetError.{BufferSetError}
use Rattle.block_shelf.specs.declared.filling.BufferSetError.TheVariants as errors

-- the refusal over the store at a place is that over all stores
unadded_at : {S : Type 0} (g : Ghosts S) (first : ℕ) (stores : List S) (place : ℕ) (store : S)
    (error : BufferSetError S) → slice_get stores place ≡ Some store
    → IsRefusalOver g store (first + place) error → IsUnadded g first stores error
unadded_at g first stores place store errors.Memory there refused = tt
unadded_at g first stores place store (errors.Device of left) there refused = record {
  place = place;
  number_is = refused.0;
  failed = record { before = store; there = there; failed = refused.1 };
}

-- where it is passed on
pub unadded : {S X : Type 0} (g : Ghosts S) (first : ℕ) (stores : List S) (place : ℕ) (store : S)
    (error : BufferSetError S) (result : Result X (BufferSetError S))
    → slice_get stores place ≡ Some store → IsRefusalOver g store (first + place) error
    → IsErr result × IsErrAnd result (λ made. made ≡ error)
    → IfErr result (IsUnadded g first stores)
unadded g first stores place store error (Ok x) there refused gives = tt
unadded g first stores place store error (Err made) there refused gives =
    subst (IsUnadded g first stores) (sym gives.1)
    (unadded_at g first stores place store error there refused)

-- a buffer that was made and stopped is added
pub added_by : {S E : Type 0} {g : Ghosts S} (stop number : ℕ) (store : S) (buffer : Buffer S g)
    (result : Result S E)
    → ((trusted : Bool) → (trusted ≡ true → g.honest store)
    → Agrees trusted buffer (new_history (buffer_over g number store)))
    → LeavesBlocks g store (store_of buffer)
    → g.calls (store_of buffer) ≡ g.calls store + 1
    → g.failures (store_of buffer) ≡ g.failures store
    → IfOk result (λ left. (h : History) → Agrees true buffer h
    → HoldsStopped (g.heads left) (g.blocks left) stop h)
    → IfOk result (λ left. g.honest (store_of buffer) → g.honest left)
    → IfOk result (λ left. length (g.blocks left) ≡ length (g.blocks (store_of buffer)))
    → IfOk result (λ left. g.calls left
    ≡ g.calls (store_of buffer) + head_blocks (length (g.blocks (store_of buffer))))
    → IfOk result (λ left. g.failures left ≡ g.failures (store_of buffer))
    → IfOk result (IsAddedOver g stop number store)
added_by stop number store buffer (Err error) agrees blocks calls failures held honest count called
    failed = tt
added_by {g = g} stop number store buffer (Ok left) agrees blocks calls failures held honest count
    called failed = record {
      held = λ is. held (new_history (buffer_over g number store)) (agrees true (λ yes. is));
      honest = λ is. honest (blocks.honest is);
      count = count ∙ blocks.count;
      calls = rw (calls, blocks.count) at called;
      no_failure = failed ∙ failures;
    }

-- the buffer over a store has as many blocks as that over what was left of it
pub same_buffer : {S : Type 0} (g : Ghosts S) (number : ℕ) (old new : S)
    → length (g.blocks new) ≡ length (g.blocks old)
    → buffer_over g number old ≡ buffer_over g number new
same_buffer g number old new same =
    let over : ℕ → places.Buffer =
    λ n. record { number = number; blocks = n; first_cycle = 0 } in
    ap over (sym same)

-- what has nothing to do with what the blocks hold hasn't as the relay's fault
pub from_outside : (error : StartError) → IsOutside error → IsFromOutside (fault_of_start error)
from_outside starts.Memory outside = tt
from_outside starts.Device outside = tt
from_outside starts.NoHead outside = absurd outside
from_outside starts.Unclosed outside = absurd outside
from_outside starts.Damaged outside = absurd outside
