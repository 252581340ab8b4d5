-- What stands behind more lines.
use Rattle.std.proofs.Common.{◌≡◌, ◌+◌}
use Rattle.std.proofs.Common.{arith, sym, ap, subst, ◌∙◌}
use Rattle.std.proofs.Common.{drop, None, ℕ, List}
use Rattle.std.proofs.lemmas.List.{take_rest, drop-drop}
use Rattle.news_terms.specs.Lines.{first_line}
use Rattle.stream_cut.specs.Look.{IsPassed, ClosesAt}
use Rattle.stream_cut.specs.Past.{StandsAs}
use Rattle.stream_cut.specs.declared.look.Progress.{Progress}
use Rattle.stream_cut.proofs.LimitLemmas.{part_goes}
use Rattle.stream_cut.proofs.PastLemmas.{oversize_later, lines_later, later_bound}
use Rattle.stream_cut.proofs.PassLemmas.{IsPassed-none, IsLooked-none}
use Rattle.stream_cut.proofs.past.look_past_line.Goals as goal

pub returns-in-Closed : goal.returns-in-Closed
returns-in-Closed c = λ limit gone some past lines.
    let s = c.args.kept.now in
    let at = c.args.at in
    let p = c.in-Closed.progress in
    let found = c.in-Closed.ensures in
    let passed = subst (λ (x : List ℕ). IsPassed x p.passed p.looked p.dots) (take_rest s at)
    found.0 in
    let closes = subst (λ (x : List ℕ). ClosesAt x p.passed) (take_rest s at) found.1 in (
      oversize_later limit gone s at p.passed p.looked p.dots c.requires lines past passed closes,
      subst (λ (x : Progress). IsPassed s x.passed x.looked x.dots) (sym c.none-in-Closed.ensures)
          (IsPassed-none s 0 (IsLooked-none s)),
    )

pub returns-in-Open : goal.returns-in-Open
returns-in-Open c = λ limit gone some past lines.
    let s = c.args.kept.now in
    let at = c.args.at in
    let p = c.in-Open.progress in
    let found = c.in-Open.ensures in
    let passed = subst (λ (x : List ℕ). IsPassed x p.passed p.looked p.dots) (take_rest s at)
    found.0 in
    let none = subst (λ (x : List ℕ). first_line (drop p.passed x) ≡ None) (take_rest s at)
    found.1 in
    subst (StandsAs limit gone s) (sym c.part_to_drop.ensures)
    (part_goes limit gone s (at + p.passed)
    (later_bound s at p.passed p.looked p.dots c.requires passed)
    (lines_later gone s at p.passed p.looked p.dots lines passed)
    (ap first_line (sym (drop-drop p.passed at s)) ∙ none) past (λ short. omega (arith, some)))
