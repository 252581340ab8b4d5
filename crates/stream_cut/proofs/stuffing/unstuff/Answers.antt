-- One piece more is told, unstuffed.
use Rattle.std.proofs.Common.{◌++◌, arith, sym, ap, ◌∙◌, drop, List, ℕ}
use Rattle.std.proofs.lemmas.List.{take_rest}
use Rattle.news_terms.specs.Blocks.{unstuffed_line}
use Rattle.stream_cut.proofs.TextLemmas.{sent, sent_more, unstuffed_line-dots}
use Rattle.stream_cut.proofs.TextLemmas.{whole_first, whole_last, whole_more}
use Rattle.stream_cut.proofs.stuffing.unstuff.Goals as goal

pub loop-next-init : goal.loop-next-init
loop-next-init c =
    let t = c.args.lines.now in
    record {
      within = omega arith;
      told = ap (λ (x : List ℕ). x ++ sent unstuffed_line t) c.in_ok-text.ensures.items;
      whole = whole_first t c.requires;
    }

pub loop-next-preserved : goal.loop-next-preserved
loop-next-preserved c =
    let t = c.args.lines.now in
    let at = c.loop-next.at in
    let next = c.in-Some.next in
    let found = c.in-Some.ensures in
    record {
      within = found.within;
      told = ap (λ (x : List ℕ). x ++ sent unstuffed_line (drop next t))
          c.in_ok-push_unstuffed.ensures
          ∙ sent_more unstuffed_line unstuffed_line-dots t c.loop-next.text.items at next
          found.dots found.behind
          ∙ c.loop-next.invariant.told;
      whole = whole_more t at next found.dots found.behind c.loop-next.invariant.whole;
    }

pub returns : goal.returns
returns c =
    let left = drop c.loop-next.at c.args.lines.now in
    c.in_ok-push_unstuffed-2.ensures
    ∙ ap (λ (x : List ℕ). c.loop-next.text.items ++ unstuffed_line x)
    (take_rest c.args.lines.now c.loop-next.at)
    ∙ ap (λ (x : List ℕ). c.loop-next.text.items ++ x)
    (sym (whole_last unstuffed_line unstuffed_line-dots left c.in_default.ensures
    c.loop-next.invariant.whole))
    ∙ c.loop-next.invariant.told

pub loop-next-smaller : goal.loop-next-smaller
loop-next-smaller c = omega (arith, c.in-Some.ensures.behind, c.in-Some.ensures.within)

pub slice_bounds-push_unstuffed-count-2 : goal.slice_bounds-push_unstuffed-count-2
slice_bounds-push_unstuffed-count-2 c = c.loop-next.invariant.within
