-- The dot that is found behind a place is the next one of the octets.
use Rattle.std.proofs.Common.{◌+◌, ◌-◌, ◌≡◌, ℕ, List, arith, drop, subst, sym}
use Rattle.std.proofs.lemmas.List.{take_rest}
use Rattle.stream_cut.specs.Dots.{DotsAt, HasNoInnerDot}
use Rattle.stream_cut.proofs.PassLemmas.{IsLooked-none}
use Rattle.stream_cut.proofs.TextLemmas.{dot_within}
use Rattle.stream_cut.proofs.stuffing.next_dot.Goals as goal

pub inner_dot-requires : goal.inner_dot-requires
inner_dot-requires c = IsLooked-none _

pub overflow_add-result : goal.overflow_add-result
overflow_add-result c =
    let t = c.args.octets.now in
    let dots : DotsAt (drop c.args.at t) c.in-Some.end =
    subst (λ (x : List ℕ). DotsAt x c.in-Some.end) (take_rest t c.args.at) c.in-Some.ensures in
    omega (arith, (dot_within t c.args.at c.in-Some.end c.requires dots).1)

pub returns-in-Some : goal.returns-in-Some
returns-in-Some c =
    let t = c.args.octets.now in
    let at = c.args.at in
    let end = c.in-Some.end in
    let dots : DotsAt (drop at t) end =
    subst (λ (x : List ℕ). DotsAt x end) (take_rest t at) c.in-Some.ensures in
    let inside = dot_within t at end c.requires dots in
    let count : at + end - at ≡ end = omega arith in
    record {
      dots = subst (λ (n : ℕ). DotsAt (drop at t) n) (sym count) dots;
      behind = omega (arith, inside.0);
      within = inside.1;
    }

pub returns-in-None : goal.returns-in-None
returns-in-None c = subst HasNoInnerDot (take_rest c.args.octets.now c.args.at) c.in-None.ensures
