use Rattle.std.proofs.Common.{Some, subst}
use Rattle.std.specs.Prelude.{IfSome}
use Rattle.std.proofs.lemmas.Result.{IfOk-weaker}
use Rattle.relay_log.specs.Beginning.{IsLongest}
use Rattle.relay_log.specs.Views.{journal_view}
use Rattle.relay_log.proofs.text.history_with.Goals as goal

-- what was read is the longest beginning, and it is folded in
pub returns-in-Some-clause-folded : goal.returns-in-Some-clause-folded
returns-in-Some-clause-folded c =
    let longest =
    subst (λ found. IfSome found (λ journal. IsLongest c.args.text.now (journal_view journal)))
    c.in-Some.is c.in_ok-journal.ensures.longest in
    IfOk-weaker c.folded.result _ _
    (λ new is setting same. (Some (journal_view c.in-Some.journal), (longest, is setting same)))
    c.folded.ensures.folded
