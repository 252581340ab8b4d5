use Rattle.std.proofs.Common.{refl}
use Rattle.relay_model.specs.Run.{IsDone, HasNoRoom}
use Rattle.relay_model.specs.Run as runs
use Rattle.relay_model.specs.Shares.{IsFound}
use Rattle.relay_model.specs.Writers.{WritesBlock}
use Rattle.relay_laws.proofs.devices.goes_on_all_the_same.Goals as goal

pub returns-clause-reads : goal.returns-clause-reads
returns-clause-reads c = λ w x token after rises. IsFound after rises refl refl

pub returns-clause-writes : goal.returns-clause-writes
returns-clause-writes c = λ w x g now job token written after has left rises.
    WritesBlock job token written after has left rises refl

pub returns-clause-restarts : goal.returns-clause-restarts
returns-clause-restarts c = λ w x after none rises.
    IsDone refl (runs.IsDone after none rises refl refl)

pub returns-clause-wants_memory : goal.returns-clause-wants_memory
returns-clause-wants_memory c = λ w x after rises. IsDone refl (HasNoRoom after rises refl refl)
