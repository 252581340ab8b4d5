use Rattle.std.proofs.Common.{subst}
use Rattle.std.specs.Prelude.{IsSomeAnd}
use Rattle.live_store.specs.Handles.{IsRefusedAs}
use Rattle.live_store.proofs.numbered.NumberedBuffer.begin_told.Goals as goal

pub returns-in-Err-clause-refused : goal.returns-in-Err-clause-refused
returns-in-Err-clause-refused g c = λ trusted h agrees.
    subst (λ o. IsSomeAnd o (λ error. IsRefusedAs error c.refused.result))
    (c.in-Err.ensures.refusal trusted h agrees) c.refused.ensures.told
