use Rattle.std.proofs.Common.{◌∙◌, sym, ap, arith}
use Rattle.std.specs.List.{list_all}
use Rattle.std.proofs.lemmas.List.{take_rest}
use Rattle.news_terms.specs.Article.{is_white, without_crlf}
use Rattle.article_parse.proofs.Contents.{pair_passed_by, pair_fits, octet_kept_at, at_end}
use Rattle.article_parse.proofs.Contents.{blank_content}
use Rattle.article_parse.proofs.content.is_blank.Goals as goal

pub loop-at-preserved-then-starts_with : goal.loop-at-preserved-then-starts_with
loop-at-preserved-then-starts_with c =
    let s = c.args.content.now in
    let l = c.loop-at in
    let begins = sym c.if-starts_with.ensures.value in
    record {
      within = pair_fits s _ l.at (take_rest s l.at) l.invariant.within begins;
      passed = ap (list_all is_white) (sym (pair_passed_by s _ l.at (take_rest s l.at) begins))
          ∙ l.invariant.passed;
    }

pub loop-at-preserved : goal.loop-at-preserved
loop-at-preserved c =
    let s = c.args.content.now in
    let l = c.loop-at in
    let begins = sym c.if-starts_with.ensures.value in
    let kept = ap (list_all is_white)
    (octet_kept_at s _ l.at (take_rest s l.at) c.loop-at-test.true begins) in
    record {
      within = omega (arith, c.loop-at-test.true);
      passed = sym (rw (sym c.if-is_white.ensures) at kept) ∙ l.invariant.passed;
    }

pub returns-else-is_white : goal.returns-else-is_white
returns-else-is_white c =
    let s = c.args.content.now in
    let l = c.loop-at in
    let begins = sym c.if-starts_with.ensures.value in
    let kept = ap (list_all is_white)
    (octet_kept_at s _ l.at (take_rest s l.at) c.loop-at-test.true begins) in
    sym (rw (sym c.if-is_white.ensures) at kept) ∙ l.invariant.passed ∙ blank_content s

pub returns : goal.returns
returns c =
    let s = c.args.content.now in
    let l = c.loop-at in
    sym (ap (λ x. list_all is_white (without_crlf x)) (at_end s l.at c.loop-at-test.false))
    ∙ l.invariant.passed ∙ blank_content s
