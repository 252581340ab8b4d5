use Rattle.relay_laws.proofs.OpenBlocks.{opens_free, opens_newest, opens_keep_fronts}
use Rattle.relay_laws.proofs.OpenBlocks.{begins_elsewhere}
use Rattle.relay_laws.proofs.stores.open_writes_are_alone.Goals as goal

pub returns-clause-free : goal.returns-clause-free
returns-clause-free c = opens_free

pub returns-clause-newest : goal.returns-clause-newest
returns-clause-newest c = opens_newest

pub returns-clause-fronts : goal.returns-clause-fronts
returns-clause-fronts c = opens_keep_fronts

pub returns-clause-begins : goal.returns-clause-begins
returns-clause-begins c = begins_elsewhere
