use Rattle.std.proofs.Common.{◌+◌, ◌∙◌, sym, ap, rules}
use Rattle.std.proofs.lemmas.List.{take_rest}
use Rattle.news_terms.specs.Article.{is_paired}
use Rattle.article_parse.proofs.Pairs.{pair_on, pair_off, no_pair}
use Rattle.article_parse.proofs.lines.is_paired.Goals as goal

pub returns-then-not-starts_with : goal.returns-then-not-starts_with
returns-then-not-starts_with c =
    let s = c.args.text.now in
    let at = c.loop-place.at in
    let k = c.in-Some.place in
    sym (c.loop-place.invariant.passed
    ∙ pair_off s _ _ at k (take_rest s at) (take_rest s (at + k)) c.in-Some.ensures.0
    c.in-Some.ensures.1 (sym c.if-not-starts_with.ensures.value))

pub loop-place-preserved : goal.loop-place-preserved
loop-place-preserved c =
    let s = c.args.text.now in
    let at = c.loop-place.at in
    let k = c.in-Some.place in
    record {
      within = search rules;
      passed = c.loop-place.invariant.passed
          ∙ pair_on s _ _ at k (take_rest s at) (take_rest s (at + k)) c.in-Some.ensures.0
          (sym c.if-not-starts_with.ensures.value);
    }

pub returns : goal.returns
returns c =
    let s = c.args.text.now in
    sym (c.loop-place.invariant.passed ∙ ap is_paired (sym (take_rest s c.loop-place.at))
    ∙ no_pair _ c.in_default.ensures)
