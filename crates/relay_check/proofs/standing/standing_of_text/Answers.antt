use Rattle.std.proofs.Common.{length, subst, sym}
use Rattle.std.proofs.lemmas.Bool.{eqb-true}
use Rattle.std.proofs.lemmas.Result.{IfOk-weaker}
use Rattle.first_start.proofs.Bare.{cut_before, held_each}
use Rattle.relay_check.proofs.Looks.{no_octets, on_ok, unwritten_held}
use Rattle.relay_check.specs.Looking.{IsStandingOf}
use Rattle.relay_check.proofs.standing.standing_of_text.Goals as goal

-- each store that was looked at holds what it held,
pub returns-in-Ok-true-clause-held : goal.returns-in-Ok-true-clause-held
returns-in-Ok-true-clause-held g c =
    unwritten_held g.S.BlockStore c.args.stores.now c.is_unstopped.new.stores
    c.in-Ok-true.ensures.unwritten

-- once more where no history is kept, and it may be that a first start was cut short,
pub returns-in-Ok-false-clause-told : goal.returns-in-Ok-false-clause-told
returns-in-Ok-false-clause-told g c =
    let old = c.args.stores.now in
    let seen = c.is_unstopped.new.stores in
    IfOk-weaker c.standing_without.result _ _
    (λ standing told.
    subst (IsStandingOf g.S.BlockStore c.args.config.now c.args.text.now old) (sym told.0) (
      no_octets c.args.text.now (eqb-true (length c.args.text.now) 0 (sym c.if-is_empty.ensures)),
      cut_before g.S.BlockStore old seen
          (unwritten_held g.S.BlockStore old seen c.in-Ok-false.ensures.unwritten) told.1,
    ))
    c.standing_without.ensures.told

pub returns-in-Ok-false-clause-held : goal.returns-in-Ok-false-clause-held
returns-in-Ok-false-clause-held g c =
    let old = c.args.stores.now in
    let seen = c.is_unstopped.new.stores in
    on_ok c.standing_without.result _
    (held_each g.S.BlockStore old seen c.standing_without.new.stores
    (unwritten_held g.S.BlockStore old seen c.in-Ok-false.ensures.unwritten)
    c.standing_without.ensures.held)

-- or not
pub returns-in-Ok-false-2-clause-held : goal.returns-in-Ok-false-2-clause-held
returns-in-Ok-false-2-clause-held g c =
    unwritten_held g.S.BlockStore c.args.stores.now c.is_unstopped.new.stores
    c.in-Ok-false.ensures.unwritten
