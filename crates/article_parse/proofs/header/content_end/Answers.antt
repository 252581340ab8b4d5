use Rattle.std.proofs.Common.{◌+◌, ◌∙◌, sym, ap, subst, List, ℕ}
use Rattle.std.proofs.lemmas.List.{take_rest}
use Rattle.news_terms.specs.Article.{continues_field}
use Rattle.article_parse.specs.Header.{IsLineCut}
use Rattle.article_parse.proofs.ContentCuts.{content_starts, content_goes, content_lost}
use Rattle.article_parse.proofs.header.content_end.Goals as goal

pub loop-line-init : goal.loop-line-init
loop-line-init c = content_starts c.args.text.now c.args.first c.requires

pub returns-in_default : goal.returns-in_default
returns-in_default c =
    let s = c.args.text.now in
    let end = c.loop-line.end in
    content_lost s _ c.args.first end c.loop-line.invariant (take_rest s (end + 2))
    c.in_default.ensures

pub loop-line-preserved : goal.loop-line-preserved
loop-line-preserved c =
    let s = c.args.text.now in
    let end = c.loop-line.end in
    content_goes s c.args.first end c.in-Some.line c.loop-line.invariant
    (ap continues_field (sym (take_rest s (end + 2))) ∙ sym c.loop-line-test.ensures)
    (subst (λ (x : List ℕ). IsLineCut x c.in-Some.line) (take_rest s (end + 2)) c.in-Some.ensures)
