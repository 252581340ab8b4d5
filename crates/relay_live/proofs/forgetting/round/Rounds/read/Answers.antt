use Rattle.std.proofs.Common.{◌∙◌, ◌++◌, [], ◌∷◌, ap, subst, sym}
use Rattle.cyc_buffer.specs.Agreement.{Agrees}
use Rattle.live_store.specs.Steps.{buffer_of}
use Rattle.relay_live.proofs.forgetting.round.Rounds.read.Goals as goal

-- the front that was pushed is the buffer's own
pub returns-clause-front : goal.returns-clause-front
returns-clause-front g c = λ trusted h agrees.
    c.push_reserved-2.ensures.items
    ∙ ap (λ front. c.args.self.now.fronts.items ++ front ∷ [])
    (c.passed.ensures trusted h
    (subst (λ b. Agrees trusted (buffer_of b) h) (sym c.deref.ensures) agrees))
