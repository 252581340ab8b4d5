use Rattle.std.proofs.Common.{ℕ, List, subst}
use Rattle.std.proofs.lemmas.Result.{IfOk-weaker}
use Rattle.relay_startup.specs.LastHistory.{IsLastWith}
use Rattle.relay_recovery.proofs.repairing.repaired_with.Goals as goal

-- what is repaired goes by the last history with its journal folded in
pub returns-in-Ok-clause-repaired : goal.returns-in-Ok-clause-repaired
returns-in-Ok-clause-repaired g c =
    IfOk-weaker c.repaired.result _ _
    (λ stopped of. record {
      read = c.in-Ok.ensures.last.0;
      is_read = c.in-Ok.ensures.last.1;
      last = c.in-Ok.last.items;
      folded =
          subst (λ (text : List ℕ). IsLastWith c.args.config.now text c.in-Ok.ensures.last.0
          c.in-Ok.last.items) c.deref.ensures.value c.in-Ok.ensures.last.2;
      repaired = of;
    })
    c.repaired.ensures.repaired
