use Rattle.std.proofs.Common.{◌+◌, ◌∷◌, ◌++◌, [], ◌≡◌, ◌∙◌, sym, ap, arith, drop, List, ℕ}
use Rattle.std.proofs.Common.{append-nil, append_assoc, length, vec_len}
use Rattle.std.proofs.lemmas.List.{drop_all, take_rest, length-map}
use Rattle.news_terms.specs.Article.{without_crlf}
use Rattle.news_terms.specs.Overview.{without_tabs}
use Rattle.article_parse.proofs.Contents.{pair_passed_by, pair_fits, octet_kept_at}
use Rattle.article_fetch.proofs.puts.put_spaced.Goals as goal

pub loop-at-preserved-then-starts_with : goal.loop-at-preserved-then-starts_with
loop-at-preserved-then-starts_with c =
    let s = c.args.text.now in
    let l = c.loop-at in
    let begins = sym c.if-starts_with.ensures.value in
    let pass = sym (pair_passed_by s _ l.at (take_rest s l.at) begins) in
    record {
      within = pair_fits s _ l.at (take_rest s l.at) l.invariant.within begins;
      passed = ap (λ (x : List ℕ). l.room.items ++ without_tabs x) pass ∙ l.invariant.passed;
      len = ap (λ (x : List ℕ). vec_len l.room + length x) pass ∙ l.invariant.len;
      capacity = l.invariant.capacity;
    }

pub push_reserved-requires : goal.push_reserved-requires
push_reserved-requires c =
    let s = c.args.text.now in
    let l = c.loop-at in
    let begins = sym c.if-starts_with.ensures.value in
    let kept = octet_kept_at s _ l.at (take_rest s l.at) c.loop-at-test.true begins in
    let same : length (without_tabs (without_crlf s)) ≡ length (without_crlf s) =
    length-map (without_crlf s) _ in
    omega (arith, ap length kept, c.requires)

pub loop-at-preserved : goal.loop-at-preserved
loop-at-preserved c =
    let s = c.args.text.now in
    let l = c.loop-at in
    let begins = sym c.if-starts_with.ensures.value in
    let kept = octet_kept_at s _ l.at (take_rest s l.at) c.loop-at-test.true begins in
    let rest = without_tabs (without_crlf (drop (l.at + 1) s)) in
    record {
      within = omega (arith, c.loop-at-test.true);
      passed = ap (λ (x : List ℕ). x ++ rest) c.push_reserved.ensures.items
          ∙ append_assoc l.room.items (c.spaced.result ∷ []) rest
          ∙ ap (λ (x : ℕ). l.room.items ++ x ∷ rest) c.spaced.ensures
          ∙ ap (λ (x : List ℕ). l.room.items ++ without_tabs x) (sym kept)
          ∙ l.invariant.passed;
      len = omega (arith, ap length kept);
      capacity = c.push_reserved.ensures.capacity ∙ l.invariant.capacity;
    }

pub returns-clause-items : goal.returns-clause-items
returns-clause-items c =
    sym (append-nil c.loop-at.room.items)
    ∙ ap (λ left. c.loop-at.room.items ++ without_tabs (without_crlf left))
    (sym (drop_all c.loop-at.at c.args.text.now c.loop-at-test.false))
    ∙ c.loop-at.invariant.passed

pub returns-clause-len : goal.returns-clause-len
returns-clause-len c =
    let s = c.args.text.now in
    let same : length (without_tabs (without_crlf s)) ≡ length (without_crlf s) =
    length-map (without_crlf s) _ in
    omega (
      arith,
      same,
      c.loop-at.invariant.len,
      ap (λ left. length (without_crlf left)) (drop_all c.loop-at.at s c.loop-at-test.false),
    )
