-- The stores that a drill runs over.
use Rattle.std.specs.Prelude.{◌≡◌, List, All, length, map}
use Rattle.block_shelf.specs.Leaving.{IsFresh}
use Rattle.cyc_block.specs.declared.store.BlockStore.{Ghosts}
use Rattle.relay_conf.specs.declared.cycbuff.BufferConf.{BufferConf}

-- There is a store for each of the buffers, of its blocks; each keeps what is written to it unless
-- a call of it fails, no block of an article lies on it, and none has failed.
pub record AreStoresOf {S : Type 0} (g : Ghosts S) (buffers : List BufferConf) (stores : List S)
    : Type 0 where
  pub sizes : map (λ store. length (g.blocks store)) stores ≡ map (λ buffer. buffer.blocks) buffers
  pub honest : All g.honest stores
  pub fresh : All (IsFresh g) stores
  pub well : All (λ store. g.failures store ≡ 0) stores
