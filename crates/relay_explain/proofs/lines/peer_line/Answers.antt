use Rattle.std.proofs.Common.{◌∙◌, ◌<◌, [], arith, length, sym}
use Rattle.relay_explain.specs.Lines.{begins_with, words_in}
use Rattle.relay_explain.proofs.LineWhere.{here, later}
use Rattle.relay_explain.proofs.lines.peer_line.Goals as goal

pub returns-then-has_words : goal.returns-then-has_words
returns-then-has_words c =
    let there : c.loop-at.at < length c.args.lines.now = omega (arith, c.loop-at-test.true) in
    here (λ line. begins_with c.args.key.now c.args.name.now (words_in line)) c.args.lines.now
    c.loop-at.at
    (record { ref_ptr = (0, 0); now = [] }) there (sym c.has_words.ensures ∙ c.if-has_words.true)
    c.loop-at.invariant

pub loop-at-preserved : goal.loop-at-preserved
loop-at-preserved c =
    let there : c.loop-at.at < length c.args.lines.now = omega (arith, c.loop-at-test.true) in
    later (λ line. begins_with c.args.key.now c.args.name.now (words_in line)) c.args.lines.now
    c.loop-at.at
    (record { ref_ptr = (0, 0); now = [] }) there (sym c.has_words.ensures ∙ c.if-has_words.false)
    c.loop-at.invariant
