use Rattle.relay_laws.proofs.BufferFigures.{begun_length, stored_length, stores_begun}
use Rattle.relay_laws.proofs.figures.stored_is_whole.Goals as goal

pub returns-clause-stored : goal.returns-clause-stored
returns-clause-stored c = stored_length

pub returns-clause-begun : goal.returns-clause-begun
returns-clause-begun c = begun_length

pub returns-clause-most : goal.returns-clause-most
returns-clause-most c = stores_begun
