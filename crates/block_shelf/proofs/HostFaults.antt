-- A relay whose host has no seed or no memory for it blames no device.
use Rattle.std.proofs.Common.{arith, List, Result}
use Rattle.std.specs.Prelude.{IfErr, IsErrAnd}
use Rattle.cyc_block.specs.declared.store.BlockStore.{Ghosts}
use Rattle.block_shelf.specs.Filling.{IsBeginRefusal, IsHost}
use Rattle.block_shelf.specs.declared.beginning.BeginError.{BeginError}

-- the host's own error is one of a relay that doesn't begin
pub host_refuses
    : {S X : Type 0} (g : Ghosts S) (stores : List S) (result : Result X (BeginError S))
    → IsErrAnd result IsHost → IfErr result (IsBeginRefusal g stores)
host_refuses g stores result host = grind arith
