use Rattle.std.proofs.Common.{◌∙◌, length}
use Rattle.std.proofs.lemmas.Result.{IfOk-weaker, IfErr-weaker}
use Rattle.relay_repair.proofs.EachStore.{same_numbers}
use Rattle.relay_repair.proofs.FoundOver.{found_over}
use Rattle.relay_repair.proofs.RefusedAs.{unshut_over}
use Rattle.relay_repair.proofs.repairing.repair_found.Goals as goal

pub returns-in-Ok-clause-repaired : goal.returns-in-Ok-clause-repaired
returns-in-Ok-clause-repaired g c =
    IfOk-weaker c.shut_found.result _ _
    (λ stopped shut in_time honest w saved x same left.
    shut in_time w saved x
    (found_over c.args.config.now c.args.stores.items c.in-Ok.found_set
    (c.in-Ok.ensures.keeps honest) (c.in-Ok.ensures.on_record honest)
    (c.in-Ok.ensures.of_groups honest) (c.in-Ok.ensures.before honest) w saved x same left))
    c.shut_found.ensures.shut

pub returns-in-Ok-clause-counts : goal.returns-in-Ok-clause-counts
returns-in-Ok-clause-counts g c =
    IfOk-weaker c.shut_found.result _ _
    (λ stopped counts.
    counts
    ∙ same_numbers (λ store. length (g.S.BlockStore.blocks store))
    (λ store. length (g.S.BlockStore.blocks store)) c.in-Ok.ensures.unwritten
    (λ b old new read. read.held.count))
    c.shut_found.ensures.counts

pub returns-in-Ok-clause-refused : goal.returns-in-Ok-clause-refused
returns-in-Ok-clause-refused g c =
    IfErr-weaker c.shut_found.result _ _
    (λ refused unshut.
    unshut_over c.args.stores.items c.in-Ok.found_set refused c.in-Ok.ensures.unwritten unshut)
    c.shut_found.ensures.refused
