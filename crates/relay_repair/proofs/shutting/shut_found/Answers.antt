use Rattle.std.proofs.Common.{◌∙◌, ap, subst}
use Rattle.buffer_repair.specs.Shutting.{HoldsFound, HoldsFoundLeft}
use Rattle.relay_core.specs.Stopping.{next_stop}
use Rattle.relay_repair.proofs.Repaired.{is_repaired}
use Rattle.relay_repair.proofs.Unshut.{counted, unread, unshut}
use Rattle.relay_repair.proofs.shutting.shut_found.Goals as goal

pub returns-in-Ok-shut-clause-shut : goal.returns-in-Ok-shut-clause-shut
returns-in-Ok-shut-clause-shut g c =
    is_repaired c.args.config.now c.args.old c.args.now c.args.found_set
    c.tell_found.new.found_set c.in-Ok.history.items c.in-Ok-shut.stores.items
    c.in-Ok.ensures.tells
    (subst (λ stop. HoldsFound stop c.tell_found.new.found_set c.in-Ok-shut.stores.items)
    (c.next_stop-stop.ensures ∙ ap next_stop c.last_stop.ensures) c.in-Ok-shut.ensures.held)
    (subst (λ stop. HoldsFoundLeft stop c.tell_found.new.found_set c.in-Ok-shut.stores.items)
    (c.next_stop-stop.ensures ∙ ap next_stop c.last_stop.ensures) c.in-Ok-shut.ensures.left)

pub returns-in-Ok-shut-clause-counts : goal.returns-in-Ok-shut-clause-counts
returns-in-Ok-shut-clause-counts g c =
    counted c.args.found_set c.tell_found.new.found_set c.tell_found.ensures.held _
    c.in-Ok-shut.stores.items c.in-Ok-shut.ensures.shut

pub returns-in-Err-shut-clause-refused : goal.returns-in-Err-shut-clause-refused
returns-in-Err-shut-clause-refused g c =
    unshut c.args.found_set c.tell_found.new.found_set c.tell_found.ensures.held _
    c.in-Err-shut.unstarted c.in-Ok.ensures.unfailed c.in-Err-shut.ensures.refusal

pub returns-in-Err-clause-refused : goal.returns-in-Err-clause-refused
returns-in-Err-clause-refused g c =
    unread c.args.found_set c.tell_found.new.found_set c.tell_found.ensures.held c.in-Err.fault
    c.given_back.result c.in-Err.ensures.refused c.given_back.ensures.stores
    c.given_back.ensures.fault
