use Rattle.relay_serve.proofs.Kept.{where_kept}
use Rattle.relay_serve.proofs.keeping.keep_finished.Goals as goal

-- totals are told only where the history was kept,
pub returns-clause-kept : goal.returns-clause-kept
returns-clause-kept g c = λ honest. where_kept _ c.told.result c.keep_stopped.result
    c.told.ensures.kept (c.keep_stopped.ensures.kept honest)

-- and is what lasts
pub returns-clause-lasts : goal.returns-clause-lasts
returns-clause-lasts g c = λ honest. where_kept _ c.told.result c.keep_stopped.result
    c.told.ensures.kept (c.keep_stopped.ensures.lasts honest)
