-- What was sent, dots by dots, and that there is room for each.
use Rattle.std.proofs.Common.{◌+◌, ◌≤◌, ◌++◌, arith, refl, sym, ap, subst, ◌∙◌, drop}
use Rattle.std.proofs.Common.{length, List, ℕ, vec_len, vec_capacity}
use Rattle.std.proofs.lemmas.List.{take_rest}
use Rattle.news_terms.specs.Blocks.{stuffed}
use Rattle.news_terms.proofs.StuffRoom.{stuffed-bounded}
use Rattle.stream_cut.specs.Dots.{HasNoInnerDot}
use Rattle.stream_cut.proofs.TextLemmas.{stuffed_count, stuffed_more}
use Rattle.stream_cut.proofs.stuffing.put_stuffed.Goals as goal

pub loop-next-init : goal.loop-next-init
loop-next-init c =
    let t = c.args.text.now in
    record {
      within = omega arith;
      told = refl;
      room = omega (arith, c.requires, stuffed-bounded t);
      capacity = refl;
    }

pub put_stuffed_line-requires : goal.put_stuffed_line-requires
put_stuffed_line-requires c =
    let found = c.in-Some.ensures in
    omega (
      arith,
      c.loop-next.invariant.room,
      stuffed_count c.args.text.now c.loop-next.at c.in-Some.next found.dots found.behind,
    )

pub loop-next-preserved : goal.loop-next-preserved
loop-next-preserved c =
    let t = c.args.text.now in
    let at = c.loop-next.at in
    let next = c.in-Some.next in
    let found = c.in-Some.ensures in
    let put = c.put_stuffed_line.ensures in
    record {
      within = found.within;
      told = ap (λ (x : List ℕ). x ++ stuffed (drop next t)) put.items
          ∙ stuffed_more t c.loop-next.block.items at next found.dots found.behind
          ∙ c.loop-next.invariant.told;
      room = omega (
        arith,
        c.loop-next.invariant.room,
        put.len,
        put.capacity,
        stuffed_count t at next found.dots found.behind,
      );
      capacity = put.capacity ∙ c.loop-next.invariant.capacity;
    }

pub loop-next-smaller : goal.loop-next-smaller
loop-next-smaller c = omega (arith, c.in-Some.ensures.behind, c.in-Some.ensures.within)

pub slice_bounds-put_last-count : goal.slice_bounds-put_last-count
slice_bounds-put_last-count c = c.loop-next.invariant.within

pub put_last-requires-clause-dots : goal.put_last-requires-clause-dots
put_last-requires-clause-dots c =
    subst HasNoInnerDot (sym (take_rest c.args.text.now c.loop-next.at)) c.in_default.ensures

pub put_last-requires-clause-room : goal.put_last-requires-clause-room
put_last-requires-clause-room c =
    subst (λ (x : List ℕ). vec_len c.loop-next.block + length (stuffed x)
    ≤ vec_capacity c.loop-next.block) (sym (take_rest c.args.text.now c.loop-next.at))
    c.loop-next.invariant.room

pub returns-clause-items : goal.returns-clause-items
returns-clause-items c =
    c.put_last.ensures.items
    ∙ ap (λ (x : List ℕ). c.loop-next.block.items ++ stuffed x)
    (take_rest c.args.text.now c.loop-next.at)
    ∙ c.loop-next.invariant.told

pub returns-clause-capacity : goal.returns-clause-capacity
returns-clause-capacity c = c.put_last.ensures.capacity ∙ c.loop-next.invariant.capacity
