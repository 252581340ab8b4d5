use Rattle.std.proofs.Common.{◌∙◌, ap, sym, map, List}
use Rattle.news_terms.specs.Pattern.{matches, verdict}
use Rattle.uwild.specs.declared.item.Item.{Item}
use Rattle.uwild.specs.declared.pattern.Pattern.{Pattern}
use Rattle.uwild.specs.Expression.{item_view, pattern_view}
use Rattle.uwild.proofs.Verdicts.{last_decides, last_passes}
use Rattle.uwild.proofs.expression.Expr.judge.Goals as goal

pub loop-last-init : goal.loop-last-init
loop-last-init c =
    ap (λ (patterns : List Pattern). verdict (map pattern_view patterns) c.args.name.now)
    c.as_slice-left.ensures.value
    ∙ ap (λ marked. verdict marked c.args.name.now) c.self.view_is

pub returns-then-matches : goal.returns-then-matches
returns-then-matches c =
    let is = c.matches.ensures
    ∙ ap (λ (items : List Item). matches (map item_view items) c.args.name.now)
    c.deref.ensures.value in
    sym (last_decides c.args.name.now c.loop-last.left.now c.in-Some.before.now c.in-Some.last.now
    c.in-Some.ensures.cases.0 (sym is ∙ c.if-matches.true))
    ∙ c.loop-last.invariant

pub loop-last-preserved : goal.loop-last-preserved
loop-last-preserved c =
    let is = c.matches.ensures
    ∙ ap (λ (items : List Item). matches (map item_view items) c.args.name.now)
    c.deref.ensures.value in
    sym (last_passes c.args.name.now c.loop-last.left.now c.in-Some.before.now c.in-Some.last.now
    c.in-Some.ensures.cases.0 (sym is ∙ c.if-matches.false))
    ∙ c.loop-last.invariant
