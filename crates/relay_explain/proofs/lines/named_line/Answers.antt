use Rattle.std.proofs.Common.{◌∙◌, ◌<◌, [], arith, length, sym}
use Rattle.relay_explain.specs.Lines.{begins_with, parts_in}
use Rattle.relay_explain.proofs.LineWhere.{here, later}
use Rattle.relay_explain.proofs.lines.named_line.Goals as goal

pub returns-then-has_parts : goal.returns-then-has_parts
returns-then-has_parts c =
    let there : c.loop-at.at < length c.args.lines.now = omega (arith, c.loop-at-test.true) in
    here (λ line. begins_with c.args.key.now c.args.name.now (parts_in line)) c.args.lines.now
    c.loop-at.at
    (record { ref_ptr = (0, 0); now = [] }) there (sym c.has_parts.ensures ∙ c.if-has_parts.true)
    c.loop-at.invariant

pub loop-at-preserved : goal.loop-at-preserved
loop-at-preserved c =
    let there : c.loop-at.at < length c.args.lines.now = omega (arith, c.loop-at-test.true) in
    later (λ line. begins_with c.args.key.now c.args.name.now (parts_in line)) c.args.lines.now
    c.loop-at.at
    (record { ref_ptr = (0, 0); now = [] }) there (sym c.has_parts.ensures ∙ c.if-has_parts.false)
    c.loop-at.invariant
