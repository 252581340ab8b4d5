use Rattle.std.proofs.Common.{◌∙◌, ◌++◌, ℕ, List, ap, arith, drop, sym}
use Rattle.relay_adding.specs.Telling.{added_lines}
use Rattle.relay_adding.proofs.AddedLines.{lines_told}
use Rattle.relay_adding.proofs.text.added_text.Goals as goal

-- there is one
pub returns : goal.returns
returns c =
    let lines = added_lines c.args.first c.args.stop (drop c.args.first c.args.buffers.now) in
    c.in_ok-put_lines.ensures
    ∙ ap (λ (text : List ℕ). text ++ lines) c.new-text.ensures.items
    ∙ sym (lines_told c.args.first c.args.stop c.args.buffers.now
    (omega (arith, c.if-first-buffers.false)))
