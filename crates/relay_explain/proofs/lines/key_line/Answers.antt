use Rattle.std.proofs.Common.{◌∙◌, ◌<◌, [], arith, length, sym}
use Rattle.relay_explain.specs.Lines.{begins, words_in}
use Rattle.relay_explain.proofs.LineWhere.{here, later}
use Rattle.relay_explain.proofs.lines.key_line.Goals as goal

pub returns-then-has_word : goal.returns-then-has_word
returns-then-has_word c =
    let there : c.loop-at.at < length c.args.lines.now = omega (arith, c.loop-at-test.true) in
    here (λ line. begins c.args.key.now (words_in line)) c.args.lines.now c.loop-at.at
    (record { ref_ptr = (0, 0); now = [] }) there (sym c.has_word.ensures ∙ c.if-has_word.true)
    c.loop-at.invariant

pub loop-at-preserved : goal.loop-at-preserved
loop-at-preserved c =
    let there : c.loop-at.at < length c.args.lines.now = omega (arith, c.loop-at-test.true) in
    later (λ line. begins c.args.key.now (words_in line)) c.args.lines.now c.loop-at.at
    (record { ref_ptr = (0, 0); now = [] }) there (sym c.has_word.ensures ∙ c.if-has_word.false)
    c.loop-at.invariant
