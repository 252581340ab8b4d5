-- The window has all octets that a line may have.
use Rattle.std.proofs.Common.{◌≤◌, arith, sym, ap, ◌∙◌, take, length, ℕ}
use Rattle.std.proofs.lemmas.List.{take_all}
use Rattle.news_terms.specs.Lines.{first_line}
use Rattle.stream_cut.proofs.PlaceLemmas.{next_line-ends, next_line-too_long, next_line-incomplete}
use Rattle.stream_cut.proofs.PlaceLemmas.{looked_all}
use Rattle.stream_cut.proofs.PassLemmas.{IsPassed-none}
use Rattle.stream_cut.proofs.look.look_for_line.Goals as goal

pub returns-in-Some : goal.returns-in-Some
returns-in-Some c =
    let count = c.min-seen.ensures in
    next_line-ends c.args.octets.now c.min-seen.result c.in-Some.end (omega arith)
    (omega arith) c.in-Some.ensures

pub returns-then-seen-eq-LINE_LIMIT : goal.returns-then-seen-eq-LINE_LIMIT
returns-then-seen-eq-LINE_LIMIT c =
    let s = c.args.octets.now in
    let count = c.min-seen.ensures in
    let full = c.if-seen-eq-LINE_LIMIT.true in
    next_line-too_long s (omega arith)
    (ap (λ (n : ℕ). first_line (take n s)) (sym full) ∙ c.in_default.ensures)

pub returns : goal.returns
returns c =
    let s = c.args.octets.now in
    let count = c.min-seen.ensures in
    let short = c.if-seen-eq-LINE_LIMIT.false in
    let all : length s ≤ c.min-seen.result = omega arith in
    let none = ap first_line (sym (take_all c.min-seen.result s all)) ∙ c.in_default.ensures in
    let one = c.saturating_sub-2.ensures in (
      next_line-incomplete s (omega arith) none,
      IsPassed-none s c.saturating_sub-2.result
          (looked_all s c.saturating_sub-2.result none (omega arith)),
    )
