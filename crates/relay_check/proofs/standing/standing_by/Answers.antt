use Rattle.std.proofs.Common.{◌∙◌, ℕ, ap, subst, sym}
use Rattle.std.proofs.lemmas.Result.{IfErr-weaker}
use Rattle.std.specs.Result.{IfOk}
use Rattle.first_start.proofs.Bare.{itself_each}
use Rattle.relay_folder.specs.Origin.{Beginning, origin_view}
use Rattle.relay_folder.specs.declared.origin.Origin.{Origin}
use Rattle.relay_check.proofs.CausesByName.{same_named_cause}
use Rattle.relay_startup.proofs.Faults.{origin_serves}
use Rattle.relay_check.specs.Looking.{IsStandingBy}
use Rattle.relay_check.specs.declared.standing.Stands.{Stands}
use Rattle.relay_check.proofs.standing.standing_by.Goals as goal

-- a start would begin from nothing,
pub returns-in-Ok-Formatted-clause-told : goal.returns-in-Ok-Formatted-clause-told
returns-in-Ok-Formatted-clause-told g c = λ honest names.
    subst (λ (from : Beginning). IsStandingBy g.S.BlockStore c.args.config.now
    (g.N.HistoryPlace.kept c.args.names.now) from c.args.stores.now
    c.unchanged.result.standing)
    (ap (λ (from : Origin). origin_view from) (sym c.in-Ok-Formatted.field-0-is)
    ∙ c.in-Ok-Formatted.ensures.origin honest)
    c.unchanged.ensures.standing

pub returns-in-Ok-Formatted-clause-held : goal.returns-in-Ok-Formatted-clause-held
returns-in-Ok-Formatted-clause-held g c = itself_each g.S.BlockStore c.args.stores.now

-- or from what is looked at,
pub returns-in-Ok-Stopped-clause-told : goal.returns-in-Ok-Stopped-clause-told
returns-in-Ok-Stopped-clause-told g c = λ honest names.
    let seen = c.standing_by_name in
    subst (λ (from : Beginning). IfOk seen.result (λ (stands : Stands).
    IsStandingBy g.S.BlockStore c.args.config.now (g.N.HistoryPlace.kept c.args.names.now) from
    c.args.stores.now stands.standing))
    (ap (λ (from : Origin). origin_view from) (sym c.in-Ok-Stopped.field-0-is)
    ∙ c.in-Ok-Stopped.ensures.origin honest)
    (seen.ensures.told names)

-- whose cause is that of what is kept,
pub returns-in-Ok-Stopped-clause-cause : goal.returns-in-Ok-Stopped-clause-cause
returns-in-Ok-Stopped-clause-cause g c = λ honest names stores.
    let seen = c.standing_by_name in
    IfErr-weaker seen.result _ _
    (λ error told.
    same_named_cause c.args.config.now (g.N.HistoryPlace.kept c.args.names.now) c.args.blank
    (g.H.HistoryPlace.kept c.args.history.now) c.in-Ok-Stopped.text.items error
    (sym (ap (λ (from : Origin). origin_view from) (sym c.in-Ok-Stopped.field-0-is)
    ∙ c.in-Ok-Stopped.ensures.origin honest)) told)
    (seen.ensures.cause names stores)

-- or the history can't be had
pub returns-in-Err-clause-fault : goal.returns-in-Err-clause-fault
returns-in-Err-clause-fault g c =
    origin_serves c.args.config.now c.unread.result c.unread.ensures
