-- Whole lines up to one that begins with a dot are passed, up to the lone dot or the last ones.
use Rattle.std.proofs.Common.{◌≡◌, ◌∷◌, ◌+◌, arith, sym, ap, subst}
use Rattle.std.proofs.Common.{◌∙◌, drop, length, length-drop, List, ℕ}
use Rattle.std.proofs.lemmas.List.{take_rest}
use Rattle.stream_cut.specs.Dots.{DotsAt, HasNoInnerDot, dot_of}
use Rattle.stream_cut.specs.Look.{ClosesAt, IsLooked, IsPassed, IsUnclosed}
use Rattle.stream_cut.proofs.PassLemmas.{dot_closes, dot_of-bound, pass_front, passed-bounds}
use Rattle.stream_cut.proofs.PassLemmas.{passed-tail}
use Rattle.stream_cut.proofs.TextLemmas.{dot_within, dots_within, less_left}
use Rattle.stream_cut.proofs.look.look_for_block.Goals as goal

pub loop-left-init : goal.loop-left-init
loop-left-init c = c.requires

pub inner_dot-requires : goal.inner_dot-requires
inner_dot-requires c =
    let s = c.args.octets.now in
    let p = c.loop-left.progress in
    subst (λ (x : List ℕ). IsLooked x p.looked)
    (sym (take_rest s p.passed
    ∙ passed-tail s p.passed p.looked p.dots c.loop-left.invariant))
    c.loop-left.invariant.seen

pub pass_last-requires-clause-passed : goal.pass_last-requires-clause-passed
pass_last-requires-clause-passed c = c.loop-left.invariant

pub pass_last-requires-clause-dots : goal.pass_last-requires-clause-dots
pass_last-requires-clause-dots c =
    subst HasNoInnerDot (take_rest c.args.octets.now c.loop-left.progress.passed)
    c.in_default.ensures

pub pass_last-requires-clause-open : goal.pass_last-requires-clause-open
pass_last-requires-clause-open c =
    subst IsUnclosed (take_rest c.args.octets.now c.loop-left.progress.passed)
    c.loop-left-test.ensures

pub returns-in_default : goal.returns-in_default
returns-in_default c = c.pass_last.ensures

pub slice_bounds-is_closed-count : goal.slice_bounds-is_closed-count
slice_bounds-is_closed-count c =
    let p = c.loop-left.progress in
    (passed-bounds c.args.octets.now p.passed p.looked p.dots c.loop-left.invariant).0

pub slice_bounds-left-count : goal.slice_bounds-left-count
slice_bounds-left-count c =
    let p = c.loop-left.progress in
    (passed-bounds c.args.octets.now p.passed p.looked p.dots c.loop-left.invariant).0

pub overflow_add-progress : goal.overflow_add-progress
overflow_add-progress c =
    let s = c.args.octets.now in
    let p = c.loop-left.progress in
    let bounds = passed-bounds s p.passed p.looked p.dots c.loop-left.invariant in
    let dots : DotsAt (drop p.passed s) c.in-Some.end =
    subst (λ (x : List ℕ). DotsAt x c.in-Some.end) (take_rest s p.passed) c.in-Some.ensures in
    omega (arith, (dot_within s p.passed c.in-Some.end bounds.0 dots).1)

pub loop-left-smaller : goal.loop-left-smaller
loop-left-smaller c =
    let s = c.args.octets.now in
    let p = c.loop-left.progress in
    let bounds = passed-bounds s p.passed p.looked p.dots c.loop-left.invariant in
    let dots : DotsAt (drop p.passed s) c.in-Some.end =
    subst (λ (x : List ℕ). DotsAt x c.in-Some.end) (take_rest s p.passed) c.in-Some.ensures in
    less_left p.passed c.in-Some.end (length s) (dot_within s p.passed c.in-Some.end bounds.0 dots)

pub overflow_add-progress-in-loop-left : goal.overflow_add-progress-in-loop-left
overflow_add-progress-in-loop-left c =
    let s = c.args.octets.now in
    let p = c.loop-left.progress in
    let left = drop p.passed s in
    let bounds = passed-bounds s p.passed p.looked p.dots c.loop-left.invariant in
    let dots : DotsAt left c.in-Some.end =
    subst (λ (x : List ℕ). DotsAt x c.in-Some.end) (take_rest s p.passed) c.in-Some.ensures in
    let within = dots_within left c.in-Some.end dots in
    omega (
      arith,
      c.dots.ensures ∙ ap dot_of (take_rest s p.passed),
      dot_of-bound left,
      bounds.0,
      bounds.1,
      within.0,
      within.1,
      length-drop p.passed s,
    )

pub loop-left-preserved : goal.loop-left-preserved
loop-left-preserved c =
    let s = c.args.octets.now in
    let p = c.loop-left.progress in
    let end = c.in-Some.end in
    let left = drop p.passed s in
    let at : DotsAt left end =
    subst (λ (x : List ℕ). DotsAt x end) (take_rest s p.passed) c.in-Some.ensures in
    let unclosed : IsUnclosed left = subst IsUnclosed (take_rest s p.passed)
    c.loop-left-test.ensures in
    let dots : dot_of left ≡ c.dots.result = ap dot_of (sym (take_rest s p.passed))
    ∙ sym c.dots.ensures in
    subst (λ (n : ℕ). IsPassed s (p.passed + end) 0 (p.dots + n)) dots
    (pass_front s p.passed p.looked p.dots end at.front (46 ∷ at.after) c.loop-left.invariant
    at.whole at.first unclosed at.place)

pub returns : goal.returns
returns c =
    let s = c.args.octets.now in
    let p = c.loop-left.progress in
    let closes : ClosesAt (drop p.passed s) 0 =
    subst (λ (x : List ℕ). ClosesAt x 0) (take_rest s p.passed) c.loop-left-test.ensures in
    (c.loop-left.invariant, dot_closes s p.passed closes)
