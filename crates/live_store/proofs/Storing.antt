-- What a writer is told in the end.
use Rattle.std.proofs.Common.{ℕ, Bool, List, inl, subst, sym}
use Rattle.live_store.specs.declared.answers.WriteFault.{WriteFault}
use Rattle.live_store.specs.declared.answers.WriteFault.TheVariants as writes
use Rattle.live_store.specs.declared.record.StorePremises.{Ghosts}
use Rattle.live_store.specs.declared.stored.Stored.{Stored}
use Rattle.live_store.specs.Handles.{IsConflictFor}
use Rattle.live_store.specs.Steps.{IsWriteFault}
use Rattle.live_store.specs.Stores.{IsBegunWith, IsGivenUp, IsStored}

module _ {J : Type 0} {g : Ghosts J} where
  -- the fault of a write that is given up is one of the storing of the text
  pub given_up : (class : ℕ) (text : List ℕ) (fault : WriteFault) (result : Stored J g)
      → IsWriteFault text fault → IsGivenUp fault result → IsStored class text result
  given_up class text (writes.Device fault) result of told =
      subst (IsStored class text) (sym told) (record { kind = inl of.0; length = of.1 })
  given_up class text (writes.Conflict conflict) result of told =
      subst (IsStored class text) (sym told) (subst (IsConflictFor text) (sym of) tt)

  -- nothing is kept then
  pub none_begun : (fresh : Bool) (fault : WriteFault) (result : Stored J g)
      → IsGivenUp fault result → IsBegunWith fresh result
  none_begun fresh (writes.Device fault) result told = subst (IsBegunWith fresh) (sym told) tt
  none_begun fresh (writes.Conflict conflict) result told = subst (IsBegunWith fresh) (sym told) tt
