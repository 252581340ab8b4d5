use Rattle.std.proofs.Common.{sym, ◌∙◌}
use Rattle.path_rules.proofs.PathCuts.{has-posted, has-found, has-other, has-dropped, has-last}
use Rattle.path_rules.proofs.rules.has_identity.Goals as goal
use Rattle.path_rules.proofs.rules.has_identity.Goals.{
  else-is_identity-via-then-is_identity+else-is_same,
}
use Rattle.path_rules.proofs.rules.has_identity.Goals.{else-is_identity-via-else-is_identity}

pub returns-then-is_posted : goal.returns-then-is_posted
returns-then-is_posted c =
    let cut = c.in-Some.ensures in
    sym (has-posted c.args.own.now c.loop-cut.rest.now _ _ cut.0 cut.1
    (sym c.is_posted.ensures ∙ c.if-is_posted.true))
    ∙ c.loop-cut.invariant

pub returns-then-is_same : goal.returns-then-is_same
returns-then-is_same c =
    let cut = c.in-Some.ensures in
    sym (has-found c.args.own.now c.loop-cut.rest.now _ _ cut.0 cut.1
    (sym c.is_posted.ensures ∙ c.if-is_posted.false)
    (sym c.is_identity.ensures ∙ c.if-is_identity.true)
    (sym c.is_same.ensures ∙ c.if-is_same.true))
    ∙ c.loop-cut.invariant

pub loop-cut-preserved : goal.loop-cut-preserved
loop-cut-preserved c =
    let cut = c.in-Some.ensures in
    let open_piece = sym c.is_posted.ensures ∙ c.if-is_posted.false in
    elim c.else-is_identity.branch [
      | else-is_identity-via-then-is_identity+else-is_same w ↦
          sym (has-other c.args.own.now c.loop-cut.rest.now _ _ cut.0 cut.1 open_piece
          (sym c.is_identity.ensures ∙ w.if-is_identity.true)
          (sym w.is_same.ensures ∙ w.if-is_same.false))
          ∙ c.loop-cut.invariant
      | else-is_identity-via-else-is_identity w ↦
          sym (has-dropped c.args.own.now c.loop-cut.rest.now _ _ cut.0 cut.1 open_piece
          (sym c.is_identity.ensures ∙ w.if-is_identity.false))
          ∙ c.loop-cut.invariant
    ]

pub returns : goal.returns
returns c =
    sym (has-last c.args.own.now c.loop-cut.rest.now c.in_default.ensures) ∙ c.loop-cut.invariant
