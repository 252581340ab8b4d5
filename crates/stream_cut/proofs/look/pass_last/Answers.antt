use Rattle.std.proofs.Common.{◌≡◌, ◌∷◌, ◌+◌, ◌-◌, arith, sym, ap, subst, ◌∙◌, drop, length}
use Rattle.std.proofs.Common.{length-drop}
use Rattle.std.proofs.Common.{length-append, List, ℕ, None}
use Rattle.std.proofs.lemmas.List.{drop-drop, take_rest}
use Rattle.news_terms.specs.Lines.{first_line}
use Rattle.stream_cut.specs.Dots.{dot_of}
use Rattle.stream_cut.specs.Look.{EndsLast, IsPassed}
use Rattle.stream_cut.proofs.PassLemmas.{dot_of-bound, look_stops, pass_front, passed-bounds}
use Rattle.stream_cut.proofs.look.pass_last.Goals as goal

pub overflow_add-result-in-Some : goal.overflow_add-result-in-Some
overflow_add-result-in-Some c =
    let s = c.args.octets.now in
    let p = c.args.progress in
    let bounds = passed-bounds s p.passed p.looked p.dots c.requires.passed in
    let ends : EndsLast (drop p.passed s) c.in-Some.end =
    subst (λ (x : List ℕ). EndsLast x c.in-Some.end) (take_rest s p.passed) c.in-Some.ensures in
    let long = ap length ends.whole
    ∙ length-append ends.front (13 ∷ 10 ∷ drop c.in-Some.end (drop p.passed s)) in
    let one = dot_of-bound (drop p.passed s) in
    omega (
      arith,
      c.dots.ensures ∙ ap dot_of (take_rest s p.passed),
      one,
      bounds.0,
      bounds.1,
      long,
      length-drop p.passed s,
    )

pub returns-in-Some : goal.returns-in-Some
returns-in-Some c =
    let s = c.args.octets.now in
    let p = c.args.progress in
    let end = c.in-Some.end in
    let left = drop p.passed s in
    let ends : EndsLast left end =
    subst (λ (x : List ℕ). EndsLast x end) (take_rest s p.passed) c.in-Some.ensures in
    let dots : dot_of left ≡ c.dots.result = ap dot_of (sym (take_rest s p.passed))
    ∙ sym c.dots.ensures in
    let passed : IsPassed s (p.passed + end) 0 (p.dots + c.dots.result) =
    subst (λ (n : ℕ). IsPassed s (p.passed + end) 0 (p.dots + n)) dots
    (pass_front s p.passed p.looked p.dots end ends.front (drop end left) c.requires.passed
    ends.whole (λ x y e. absurd (c.requires.dots x y e)) c.requires.open ends.place) in
    let none : first_line (drop (p.passed + end) s) ≡ None =
    ap first_line (sym (drop-drop end p.passed s)) ∙ ends.last in (
      look_stops s (p.passed + end) 0 (p.dots + c.dots.result) c.saturating_sub.result passed none
          (c.saturating_sub.ensures ∙ omega arith),
      none,
    )

pub returns-in-None : goal.returns-in-None
returns-in-None c =
    let s = c.args.octets.now in
    let p = c.args.progress in
    let none = ap first_line (sym (take_rest s p.passed)) ∙ c.in-None.ensures in (
      look_stops s p.passed p.looked p.dots c.saturating_sub-in-None.result c.requires.passed none
          (c.saturating_sub-in-None.ensures
          ∙ ap (λ (x : List ℕ). length x - 1) (take_rest s p.passed)
          ∙ ap (λ (n : ℕ). n - 1) (length-drop p.passed s)),
      none,
    )
