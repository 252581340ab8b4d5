use Rattle.std.proofs.Common.{ℕ, ◌+◌, List, drop, flat_map, subst, sym}
use Rattle.relay_report.specs.Written.{GainsFront}
use Rattle.relay_report.proofs.Writes.{front_within, parts_at, writes_failed}
use Rattle.relay_report.proofs.written.put_all.Goals as goal

pub returns-in_err-put : goal.returns-in_err-put
returns-in_err-put g c =
    let parts = c.args.parts.now in
    let P : List ℕ → Type 0 = λ text. GainsFront text (g.W.Write.contents c.args.writer.now)
    (g.W.Write.contents c.put.new.writer) in
    writes_failed c.from_residual.result _ _ _ c.from_residual.ensures.0
    (subst P (sym (parts_at (λ part. part.now) parts c.loop-part.part-index _
    c.loop-part-test.true))
    (front_within _ _ _ _ _ (flat_map (λ part. part.now) (drop (c.loop-part.part-index + 1) parts))
    c.loop-part.invariant c.in_err-put.ensures))
