use Rattle.std.proofs.Common.{◌-◌, ◌∙◌, ◌<◌, sym, ap, rules, arith, take, drop, length}
use Rattle.std.proofs.lemmas.List.{take_rest}
use Rattle.news_terms.specs.Article.{has_empty_line}
use Rattle.article_parse.proofs.HeaderCuts.{line_passed, line_blank, plain_no_blank}
use Rattle.article_parse.proofs.lines.has_empty_line.Goals as goal

pub returns-then-end-eq0 : goal.returns-then-end-eq0
returns-then-end-eq0 c =
    let s = c.args.text.now in
    let at = c.loop-end.at in
    sym (c.loop-end.invariant.passed
    ∙ line_blank s _ at c.in-Some.end (take_rest s at) c.in-Some.ensures c.if-end-eq0.true)

pub loop-end-preserved : goal.loop-end-preserved
loop-end-preserved c =
    let s = c.args.text.now in
    let at = c.loop-end.at in
    let end = c.in-Some.end in
    let some : 0 < end = omega (arith, c.if-end-eq0.false) in
    let next = line_passed s _ at end (take_rest s at) c.in-Some.ensures some in
    record {
      within = search rules;
      paired = next.1;
      passed = c.loop-end.invariant.passed ∙ next.0;
    }

pub returns : goal.returns
returns c =
    let s = c.args.text.now in
    let at = c.loop-end.at in
    sym (c.loop-end.invariant.passed
    ∙ ap has_empty_line (sym (take_rest s c.loop-end.at))
    ∙ plain_no_blank (take (length s - at) (drop at s)) c.in_default.ensures)
