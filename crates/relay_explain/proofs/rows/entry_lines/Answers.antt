use Rattle.std.proofs.Common.{◌∙◌, sym, [], length, arith, ◌<◌, ap}
use Rattle.relay_explain.proofs.EntryLines.{all_begun, begun, other}
use Rattle.relay_explain.proofs.rows.entry_lines.Goals as goal
use Rattle.relay_explain.proofs.rows.entry_lines.Goals.{then-has_word+in_ok-push, else-has_word}

pub loop-at-preserved : goal.loop-at-preserved
loop-at-preserved c =
    let there : c.loop-at.at < length c.args.lines.now = omega (arith, c.loop-at-test.true) in
    elim c.if-has_word.branch [
      | then-has_word+in_ok-push w ↦
          begun c.args.lines.now c.loop-at.at (record { ref_ptr = (0, 0); now = [] }) _ _ there
          (sym c.has_word.ensures ∙ w.if-has_word.true) c.loop-at.invariant
          (ap (λ numbers. numbers.items) w.numbers-is ∙ w.in_ok-push.ensures.items)
      | else-has_word w ↦
          other c.args.lines.now c.loop-at.at (record { ref_ptr = (0, 0); now = [] }) _ _ there
          (sym c.has_word.ensures ∙ w.if-has_word.false) c.loop-at.invariant
          (ap (λ numbers. numbers.items) w.numbers-is)
    ]

pub returns : goal.returns
returns c = all_begun c.args.lines.now c.loop-at.at _ c.loop-at-test.false c.loop-at.invariant
