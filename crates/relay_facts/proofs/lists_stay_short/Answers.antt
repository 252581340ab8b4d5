use Rattle.relay_facts.proofs.ShortLists.{gained_at_most, gained_below}
use Rattle.relay_facts.proofs.lists_stay_short.Goals as goal

pub returns-clause-at_most : goal.returns-clause-at_most
returns-clause-at_most c = gained_at_most

pub returns-clause-room : goal.returns-clause-room
returns-clause-room c = gained_below
