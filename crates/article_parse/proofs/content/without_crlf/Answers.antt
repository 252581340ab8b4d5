use Rattle.std.proofs.Common.{◌+◌, ◌∷◌, ◌++◌, [], ◌∙◌, sym, ap, arith, get_or, drop, List, ℕ}
use Rattle.std.proofs.Common.{append_assoc}
use Rattle.std.proofs.lemmas.List.{take_rest}
use Rattle.news_terms.specs.Article.{without_crlf}
use Rattle.article_parse.proofs.Contents.{pair_passed_by, pair_fits, octet_kept_at}
use Rattle.article_parse.proofs.content.without_crlf.Goals as goal

pub loop-at-preserved-then-starts_with : goal.loop-at-preserved-then-starts_with
loop-at-preserved-then-starts_with c =
    let s = c.args.text.now in
    let l = c.loop-at in
    let begins = sym c.if-starts_with.ensures.value in
    record {
      within = pair_fits s _ l.at (take_rest s l.at) l.invariant.within begins;
      passed = ap (λ (x : List ℕ). l.kept.items ++ x)
          (sym (pair_passed_by s _ l.at (take_rest s l.at) begins)) ∙ l.invariant.passed;
    }

pub loop-at-preserved : goal.loop-at-preserved
loop-at-preserved c =
    let s = c.args.text.now in
    let l = c.loop-at in
    let begins = sym c.if-starts_with.ensures.value in
    record {
      within = omega (arith, c.loop-at-test.true);
      passed = rw c.in_ok-push.ensures.items
          (append_assoc l.kept.items (get_or s l.at 0 ∷ []) (without_crlf (drop (l.at + 1) s))
          ∙ ap (λ (x : List ℕ). l.kept.items ++ x)
          (sym (octet_kept_at s _ l.at (take_rest s l.at) c.loop-at-test.true begins))
          ∙ l.invariant.passed);
    }
