use Rattle.std.proofs.Common.{◌+◌, ◌∙◌, sym, ap}
use Rattle.std.proofs.lemmas.List.{take_rest}
use Rattle.news_terms.specs.Article.{without_crlf}
use Rattle.article_parse.proofs.Contents.{pair_passed_by, pair_fits}
use Rattle.article_fetch.proofs.Fronts.{white_passed, black_kept}
use Rattle.article_fetch.proofs.puts.without_front.Goals as goal

pub loop-at-preserved : goal.loop-at-preserved
loop-at-preserved c =
    let s = c.args.content.now in
    let l = c.loop-at in
    let begins = sym c.loop-at-test.ensures.value in
    record {
      within = pair_fits s _ l.at (take_rest s l.at) l.invariant.within begins;
      passed = sym (pair_passed_by s _ l.at (take_rest s l.at) begins) ∙ l.invariant.passed;
    }

pub returns-then-begins_white : goal.returns-then-begins_white
returns-then-begins_white c =
    let s = c.args.content.now in
    let l = c.loop-at in
    ap without_crlf (take_rest s (l.at + 1))
    ∙ white_passed s _ l.at (take_rest s l.at) (sym c.loop-at-test.ensures.value)
    (sym c.if-begins_white.ensures) l.invariant.passed

pub returns : goal.returns
returns c =
    let s = c.args.content.now in
    let l = c.loop-at in
    ap without_crlf (take_rest s l.at)
    ∙ black_kept s _ l.at (take_rest s l.at) (sym c.loop-at-test.ensures.value)
    (sym c.if-begins_white.ensures) l.invariant.passed
