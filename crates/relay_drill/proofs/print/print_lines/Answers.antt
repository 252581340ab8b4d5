use Rattle.std.proofs.Common.{ℕ, List, subst}
use Rattle.relay_drill.proofs.Prints.{unnoted}
use Rattle.relay_report.specs.Written.{Writes}
use Rattle.relay_drill.proofs.print.print_lines.Goals as goal

pub returns : goal.returns
returns g c =
    subst (λ (text : List ℕ). Writes c.print_noted.result text
    (g.W.Write.contents c.args.writer.now) (g.W.Write.contents c.print_noted.new.writer))
    (unnoted c.args.session c.args.octets.now) c.print_noted.ensures
