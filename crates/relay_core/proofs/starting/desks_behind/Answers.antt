use Rattle.std.proofs.Common.{List, ap, map, subst, sym, ℕ, ◌∙◌}
use Rattle.cyc_buffer.specs.Filled.{Filled, filled_view}
use Rattle.cyc_buffer.specs.declared.filled.Filled as code
use Rattle.id_history.specs.Views.{history_view}
use Rattle.relay_core.specs.Ahead.{is_ahead}
use Rattle.relay_core.specs.Desks.{AreOf}
use Rattle.relay_core.proofs.starting.desks_behind.Goals as goal

-- the history is ahead
pub returns-then-is_ahead-clause-refused : goal.returns-then-is_ahead-clause-refused
returns-then-is_ahead-clause-refused g c =
    let kept = history_view c.args.history in
    ap (λ (fs : List Filled). is_ahead fs kept) (sym c.in-Ok.ensures)
    ∙ ap (λ (fs : List code.Filled). is_ahead (map filled_view fs) kept) (sym c.deref.ensures.value)
    ∙ sym c.is_ahead.ensures ∙ c.if-is_ahead.true

-- it isn't
pub returns-in-Ok-resume-clause-behind : goal.returns-in-Ok-resume-clause-behind
returns-in-Ok-resume-clause-behind g c =
    let kept = history_view c.args.history in
    ap (λ (fs : List Filled). is_ahead fs kept) (sym c.in-Ok.ensures)
    ∙ ap (λ (fs : List code.Filled). is_ahead (map filled_view fs) kept) (sym c.deref.ensures.value)
    ∙ sym c.is_ahead.ensures ∙ c.if-is_ahead.false

-- all is made of it
pub returns-in-Ok-resume-clause-desks : goal.returns-in-Ok-resume-clause-desks
returns-in-Ok-resume-clause-desks g c =
    subst (λ (n : ℕ). AreOf c.args.config.now (history_view c.args.history) n
    c.in-Ok-resume.desks) (c.len-count.ensures ∙ c.args.config.now.buffers.groups.ok.0)
    c.in-Ok-resume.ensures
