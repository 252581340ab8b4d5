-- Whose store it is over which no buffer is made.
use Rattle.std.proofs.Common.{◌≡◌, ◌∙◌, ℕ, List, ◌∷◌, ◌++◌, length, Some, sym, subst}
use Rattle.std.proofs.Common.{Ok, Err, Result}
use Rattle.std.specs.Prelude.{slice_get, IfErr, IsErrAnd}
use Rattle.cyc_block.specs.declared.store.BlockStore.{Ghosts}
use Rattle.block_shelf.specs.Filling.{IsRefusalOver, IsBufferSetRefusal}
use Rattle.block_shelf.specs.declared.filling.BufferSetError.{BufferSetError}
use Rattle.block_shelf.specs.declared.filling.BufferSetError.TheVariants as errors
use Rattle.news_terms.proofs.ListPlaces.{next_behind}

-- the number of a store is how many stand before it
pub blamed_at : {S : Type 0} (g : Ghosts S) (front : List S) (store : S) (rest stores : List S)
    (number : ℕ) (error : BufferSetError S) → front ++ store ∷ rest ≡ stores → number ≡ length front
    → IsRefusalOver g store number error → IsBufferSetRefusal g stores error
blamed_at g front store rest stores number errors.Memory all at refusal = tt
blamed_at g front store rest stores number (errors.Device of left) all at refusal = record {
  before = store;
  there = subst (λ list. slice_get list of ≡ Some store) all
      (subst (λ n. slice_get (front ++ store ∷ rest) n ≡ Some store) (sym (refusal.0 ∙ at))
      (next_behind front store rest));
  failed = refusal.1;
}

-- want of memory blames no store
pub memory_refuses : {S X : Type 0} (g : Ghosts S) (stores : List S)
    (result : Result X (BufferSetError S)) → IsErrAnd result (λ made. made ≡ errors.Memory)
    → IfErr result (IsBufferSetRefusal g stores)
memory_refuses g stores (Ok x) made = tt
memory_refuses g stores (Err error) made =
    subst (IsBufferSetRefusal g stores) (sym made) tt
