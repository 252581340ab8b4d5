-- What a store is afterwards whose device was only had take what was written.
use Rattle.std.specs.Prelude.{◌≡◌, ℕ, None}
use Rattle.block_shelf.specs.Starting.{IsUnwritten}
use Rattle.cyc_block.specs.declared.store.BlockStore.{Ghosts}

-- the store of the buffer of this number is unwritten, and no block of it was asked for
pub record IsUncalled {S : Type 0} (g : Ghosts S) (number : ℕ) (old new : S) : Type 0 where
  pub unwritten : IsUnwritten g None number old new
  pub calls : g.calls new ≡ g.calls old
