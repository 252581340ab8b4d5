-- A buffer set isn't made where a buffer over one of its stores isn't.
use Rattle.std.proofs.Common.{◌≡◌, ◌∙◌, ℕ, List, Some, Result, Ok, Err, IfErr, ap, slice_get, subst}
use Rattle.std.proofs.Common.{sym}
use Rattle.std.specs.Prelude.{IsErr, IsErrAnd}
use Rattle.cyc_block.specs.declared.store.BlockStore.{Ghosts}
use Rattle.block_shelf.specs.Filling.{IsBufferSetRefusal, IsRefusalOver}
use Rattle.block_shelf.specs.declared.filling.BufferSetError.{BufferSetError}
use Rattle.block_shelf.specs.declared.filling.BufferSetError.TheVariants as errors

-- the refusal over the store at a place is that over all stores
refused_at : {S : Type 0} (g : Ghosts S) (stores : List S) (place : ℕ) (store : S)
    (error : BufferSetError S) → slice_get stores place ≡ Some store
    → IsRefusalOver g store place error → IsBufferSetRefusal g stores error
refused_at g stores place store errors.Memory there refused = tt
refused_at g stores place store (errors.Device of left) there refused = record {
  before = store;
  there = ap (slice_get stores) refused.0 ∙ there;
  failed = refused.1;
}

-- where it is passed on
pub refused_over : {S X : Type 0} (g : Ghosts S) (stores : List S) (place : ℕ) (store : S)
    (error : BufferSetError S) (result : Result X (BufferSetError S))
    → slice_get stores place ≡ Some store → IsRefusalOver g store place error
    → IsErr result × IsErrAnd result (λ made. made ≡ error)
    → IfErr result (IsBufferSetRefusal g stores)
refused_over g stores place store error (Ok x) there refused gives = tt
refused_over g stores place store error (Err made) there refused gives =
    subst (IsBufferSetRefusal g stores) (sym gives.1)
    (refused_at g stores place store error there refused)
