-- What contracts see of a store, whatever store it is.
use Rattle.std.specs.Prelude.{◌≡◌}
use Rattle.cyc_block.specs.declared.store.BlockStore.{Ghosts}

-- nothing that contracts see of a store is another than before
pub record LooksSame {S : Type 0} (g : Ghosts S) (old new : S) : Type 0 where
  pub blocks : g.blocks new ≡ g.blocks old
  pub heads : g.heads new ≡ g.heads old
  pub calls : g.calls new ≡ g.calls old
  pub failures : g.failures new ≡ g.failures old
  pub honest : g.honest old → g.honest new
