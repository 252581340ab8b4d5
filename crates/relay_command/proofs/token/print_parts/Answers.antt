use Rattle.std.proofs.Common.{ℕ, List, codes, subst}
use Rattle.relay_report.specs.Written.{Writes}
use Rattle.relay_command.proofs.Numbers.{in_line}
use Rattle.relay_command.proofs.token.print_parts.Goals as goal

pub returns : goal.returns
returns g c =
    subst (λ (text : List ℕ). Writes c.put_all.result text
    (g.W.Write.contents c.args.writer.now) (g.W.Write.contents c.put_all.new.writer))
    (in_line (codes "class ") (codes " buffer ") (codes " cycle ") (codes " first ")
    (codes " length ") (codes "\n") c.digits.ensures c.digits-2.ensures c.digits-3.ensures
    c.digits-4.ensures c.digits-5.ensures)
    c.put_all.ensures
