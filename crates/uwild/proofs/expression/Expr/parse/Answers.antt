use Rattle.std.proofs.Common.{◌∷◌, [], Option, List, ℕ, map, sym, ap, subst, ◌∙◌}
use Rattle.std.specs.Borrow.{Bor}
use Rattle.std.proofs.lemmas.List.{map-append}
use Rattle.std.proofs.lemmas.Result.{err_from_is_err_and}
use Rattle.news_terms.specs.Pattern.{HasLeftmostFault, IsExpressionText, Marked}
use Rattle.uwild.specs.Expression.{pattern_view}
use Rattle.uwild.specs.Reads.{HasFaultInPattern, IsMarkedTo, behind_pattern}
use Rattle.uwild.proofs.SetFaults.{fault_map}
use Rattle.uwild.proofs.Readings.{leftmost_fault, whole_expression}
use Rattle.uwild.proofs.expression.Expr.parse.Goals as goal

pub returns-in_err-cut-clause-fault : goal.returns-in_err-cut-clause-fault
returns-in_err-cut-clause-fault c =
    let rest = c.loop-patterns.rest.now in
    let p = err_from_is_err_and c.from_residual.result c.from_residual.ensures.1 in
    rw (p.1, p.2)
    (fault_map (HasFaultInPattern rest) (HasLeftmostFault c.args.text.now)
    (leftmost_fault c.args.text.now (map pattern_view c.loop-patterns.patterns.items) rest
    c.loop-patterns.invariant)
    c.in_err-cut.field-0.0 c.in_err-cut.ensures)

pub returns-in-None-clause-read : goal.returns-in-None-clause-read
returns-in-None-clause-read c =
    let done = c.loop-patterns.patterns.items in
    let m = pattern_view c.in_ok-cut.cut.pattern in
    let rest = c.loop-patterns.rest.now in
    let last : IsMarkedTo rest m [] =
    subst (λ (o : Option (Bor (List ℕ))). IsMarkedTo rest m (behind_pattern o)) c.in-None.is
    c.in_ok-cut.ensures in
    let all = ap (map pattern_view) c.in_ok-push.ensures.items
    ∙ map-append pattern_view done (c.in_ok-cut.cut.pattern ∷ []) in
    subst (λ (e : List Marked). IsExpressionText c.args.text.now e) (sym all)
    (whole_expression c.args.text.now (map pattern_view done) rest m c.loop-patterns.invariant last)
