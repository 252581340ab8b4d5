use Rattle.std.proofs.Common.{sym, ◌∙◌, ap, ◌++◌, ◌∷◌, []}
use Rattle.path_rules.proofs.PathCuts.{identities-posted, identities-last, step-kept, step-dropped}
use Rattle.path_rules.proofs.PathCuts.{step-none}
use Rattle.path_rules.proofs.rules.listed_identities.Goals as goal
use Rattle.path_rules.proofs.rules.listed_identities.Goals.{
  then-is_identity+in_ok-identity_of+in_ok-push,
}
use Rattle.path_rules.proofs.rules.listed_identities.Goals.{else-is_identity}
use Rattle.path_rules.proofs.rules.listed_identities.Goals.{in-Some+then-is_posted, in_default}

pub loop-cut-preserved : goal.loop-cut-preserved
loop-cut-preserved c =
    let cut = c.in-Some.ensures in
    let open_piece = sym c.is_posted.ensures ∙ c.if-is_posted.false in
    elim c.if-is_identity.branch [
      | then-is_identity+in_ok-identity_of+in_ok-push w ↦
          step-kept c.loop-cut.list.items c.if-is_identity.list.items c.loop-cut.rest.now _ _
          (ap (λ v. v.items) w.list-is ∙ w.in_ok-push.ensures.items
          ∙ ap (λ x. c.loop-cut.list.items ++ x ∷ []) w.in_ok-identity_of.ensures)
          cut.0 cut.1 open_piece (sym c.is_identity.ensures ∙ w.if-is_identity.true)
          ∙ c.loop-cut.invariant
      | else-is_identity w ↦
          step-dropped c.loop-cut.list.items c.if-is_identity.list.items c.loop-cut.rest.now _ _
          (ap (λ v. v.items) w.list-is)
          cut.0 cut.1 open_piece (sym c.is_identity.ensures ∙ w.if-is_identity.false)
          ∙ c.loop-cut.invariant
    ]

pub returns : goal.returns
returns c =
    elim c.match-first_piece.branch [
      | in-Some+then-is_posted w ↦
          let cut = w.in-Some.ensures in
          step-none c.loop-cut.list.items c.loop-cut.rest.now
          (identities-posted c.loop-cut.rest.now _ _ cut.0 cut.1
          (sym w.is_posted.ensures ∙ w.if-is_posted.true))
          ∙ c.loop-cut.invariant
      | in_default w ↦
          step-none c.loop-cut.list.items c.loop-cut.rest.now
          (identities-last c.loop-cut.rest.now w.in_default.ensures)
          ∙ c.loop-cut.invariant
    ]
