use Rattle.std.proofs.Common.{ap, subst, sym, ◌∙◌, arith}
use Rattle.std.proofs.lemmas.Result.{err_from_is_err_and}
use Rattle.id_history.specs.Reading.{Fails, all_of}
use Rattle.id_history.specs.Views.{history_view, setting_view}
use Rattle.id_history.proofs.Histories.{all_again, is_found, is_not_refused}
use Rattle.id_history.proofs.reading.read.Goals as goal

-- what is written so can be read, so memory ran out
pub returns-in_err-history-clause-only : goal.returns-in_err-history-clause-only
returns-in_err-history-clause-only c = λ kept fits holding written.
    let p = err_from_is_err_and c.from_residual.result c.from_residual.ensures.1 in
    rw (p.1, p.2)
    (subst (Fails c.in_err-history.field-0.0) (ap all_of written ∙ all_again kept fits)
    c.in_err-history.ensures)

-- what holds isn't refused
pub returns-then-not-holds-clause-only : goal.returns-then-not-holds-clause-only
returns-then-not-holds-clause-only c = λ kept fits holding written.
    absurd (is_not_refused (setting_view c.args.setting.now) c.args.text.now kept
    (history_view c.in_ok-history.history) c.holds.result c.holds.ensures c.if-not-holds.true
    c.in_ok-history.ensures fits holding written)

-- what passed the tests holds
pub returns-clause-found : goal.returns-clause-found
returns-clause-found c =
    is_found (setting_view c.args.setting.now) c.args.text.now
    (history_view c.in_ok-history.history) c.holds.result c.holds.ensures c.if-not-holds.false
    (λ i. omega (arith, c.type_inv.text i)) c.in_ok-history.ensures

-- what is written so is what was read
pub returns-clause-only : goal.returns-clause-only
returns-clause-only c = λ kept fits holding written.
    sym (all_again kept fits) ∙ ap all_of (sym written) ∙ c.in_ok-history.ensures
