use Rattle.std.proofs.Common.{◌∙◌, ℕ, List, ap, codes, decimal, subst}
use Rattle.relay_report.specs.Written.{Writes}
use Rattle.relay_command.proofs.Numbers.{in_line}
use Rattle.relay_command.proofs.check.print_counts.Goals as goal

pub returns : goal.returns
returns g c =
    subst (λ (text : List ℕ). Writes c.put_all.result text
    (g.W.Write.contents c.args.writer.now) (g.W.Write.contents c.put_all.new.writer))
    (in_line (codes "ok: ") (codes " buffers, ") (codes " groups, ") (codes " classes, ")
    (codes " peers, ") (codes " feeds\n")
    (c.digits.ensures ∙ ap decimal c.len.ensures)
    (c.digits-2.ensures ∙ ap decimal c.len-2.ensures)
    (c.digits-3.ensures ∙ ap decimal c.len-3.ensures)
    (c.digits-4.ensures ∙ ap decimal c.len-4.ensures)
    (c.digits-5.ensures ∙ ap decimal c.len-5.ensures))
    c.put_all.ensures
