use Rattle.relay_laws.proofs.Expirers.{order_always, order_begins, order_kept}
use Rattle.relay_laws.proofs.Forgotten.{next_front}
use Rattle.relay_laws.proofs.forgetting.fronts_are_read_in_order.Goals as goal

pub returns-clause-begins : goal.returns-clause-begins
returns-clause-begins c = order_begins

pub returns-clause-kept : goal.returns-clause-kept
returns-clause-kept c = order_kept

pub returns-clause-run : goal.returns-clause-run
returns-clause-run c = order_always

pub returns-clause-next : goal.returns-clause-next
returns-clause-next c = next_front
