use Rattle.std.proofs.Common.{take}
use Rattle.peer_session.specs.Chains.{AreChains, HasRoom}
use Rattle.peer_session.specs.Places.{ids_of}
use Rattle.peer_session.proofs.table.chain_all.Given as goal

abbrev pub invariant-loop-place : goal.invariant-loop-place
invariant-loop-place l = record {
  chains : AreChains (ids_of (take l.place-index l.offers)) l.chains;
  room : HasRoom l.chains;
}
