use Rattle.std.proofs.Common.{◌≡◌, ◌∙◌, ap, subst, sym}
use Rattle.std.proofs.lemmas.Result.{IfOk-weaker, IfErr-weaker}
use Rattle.relay_repair.proofs.Handed.{in_time, lent_is, refused_for}
use Rattle.relay_repair.specs.Repairing.{AreInTime, RepairsFrom, RepairsLeftFrom}
use Rattle.relay_repair.specs.Refusing.{IsRefusedAfter}
use Rattle.relay_repair.specs.Telling.{last_lent, last_listed, last_stop, last_view, octets_in}
use Rattle.relay_repair.proofs.repairing.repair_by.Goals as goal

pub returns-clause-repaired : goal.returns-clause-repaired
returns-clause-repaired g c =
    let same : last_lent c.as_ref.result ≡ last_view c.in-Ok.old =
    lent_is c.as_ref.result ∙ ap last_view c.as_ref.ensures.value in
    IfOk-weaker c.repair_after-answer.result _ _
    (λ stopped repairs. (
      last_view c.in-Ok.old,
      c.in-Ok.ensures.last,
      subst (λ last. RepairsFrom g.S.BlockStore c.args.config.now c.args.stores.items last
          c.args.now stopped.stores.items stopped.history.items) same
          (λ honest w saved x same_store left.
          (repairs (subst (λ last. AreInTime (last_listed last)) (sym same)
          (in_time c.args.config.now (octets_in c.args.text) (last_view c.in-Ok.old)
          c.in-Ok.ensures.last)) honest w saved x same_store left).repair),
    ))
    c.repair_after-answer.ensures.repaired

pub returns-clause-left : goal.returns-clause-left
returns-clause-left g c =
    let same : last_lent c.as_ref.result ≡ last_view c.in-Ok.old =
    lent_is c.as_ref.result ∙ ap last_view c.as_ref.ensures.value in
    IfOk-weaker c.repair_after-answer.result _ _
    (λ stopped repairs. (
      last_view c.in-Ok.old,
      c.in-Ok.ensures.last,
      subst (λ last. RepairsLeftFrom g.S.BlockStore c.args.config.now c.args.stores.items last
          c.args.now stopped.stores.items stopped.history.items) same
          (repairs (subst (λ last. AreInTime (last_listed last)) (sym same)
          (in_time c.args.config.now (octets_in c.args.text) (last_view c.in-Ok.old)
          c.in-Ok.ensures.last))),
    ))
    c.repair_after-answer.ensures.repaired

pub returns-clause-refused : goal.returns-clause-refused
returns-clause-refused g c =
    let same : last_lent c.as_ref.result ≡ last_view c.in-Ok.old =
    lent_is c.as_ref.result ∙ ap last_view c.as_ref.ensures.value in
    IfErr-weaker c.repair_after-answer.result _ _
    (λ refused after.
    refused_for c.args.config.now c.args.stores.items (octets_in c.args.text)
    (last_view c.in-Ok.old) refused c.in-Ok.ensures.last c.in-Ok.ensures.only
    (subst (λ last. IsRefusedAfter g.S.BlockStore (last_stop last) c.args.stores.items refused) same
    after))
    c.repair_after-answer.ensures.refused
