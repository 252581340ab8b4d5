use Rattle.std.proofs.Common.{ap, arith, length, List, ℕ}
use Rattle.line_words.specs.Parts.{parts}
use Rattle.line_words.proofs.Cuts.{few_parts}
use Rattle.relay_conf.proofs.LinesRead.{none_passed, line_refused, line_passed, all_passed}
use Rattle.relay_conf.proofs.LinesRead.{few_lines}
use Rattle.relay_conf.proofs.drafts.read_lines.Goals as goal

pub loop-unread-init : goal.loop-unread-init
loop-unread-init g c =
    record { counted = omega arith; passed = λ h. none_passed _ _ _ _ c.args.empty h }

pub overflow_add-number : goal.overflow_add-number
overflow_add-number g c =
    let text = c.args.text.now in
    let counted = rw c.in-Some.is at c.loop-unread.invariant.counted in
    let next = ap (λ (lines : List (List ℕ)). length lines) c.next_line.ensures in
    omega (arith, few_parts 10 text, few_lines (parts 10 text), next, counted)

pub returns-in-Err : goal.returns-in-Err
returns-in-Err g c = λ h.
    let passed =
    rw c.next_line.ensures at (rw c.in-Some.is at (c.loop-unread.invariant.passed h)) in
    rw c.at.ensures
    (line_refused _ _ _ _ c.loop-unread.number _ _ c.loop-unread.draft c.add_line.new.self passed
    c.in-Err.refusal (λ said n draws. c.in-Err.ensures {u = tt} said n draws))

pub loop-unread-preserved : goal.loop-unread-preserved
loop-unread-preserved g c =
    let counted = rw c.in-Some.is at c.loop-unread.invariant.counted in
    let next = ap (λ (lines : List (List ℕ)). length lines) c.next_line.ensures in
    record {
      counted = omega (arith, counted, next);
      passed = λ h.
          let passed =
          rw c.next_line.ensures at (rw c.in-Some.is at (c.loop-unread.invariant.passed h)) in
          line_passed _ _ _ _ c.loop-unread.number _ _ c.loop-unread.draft c.add_line.new.self
          passed (λ said n draws. c.in_default-add_line.ensures {u = tt} said n draws);
    }

pub returns : goal.returns
returns g c = λ h.
    all_passed _ _ _ _ c.loop-unread.number c.loop-unread.draft
    (rw c.in_default.is at (c.loop-unread.invariant.passed h))
