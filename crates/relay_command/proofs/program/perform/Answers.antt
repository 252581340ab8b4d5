use Rattle.std.proofs.Common.{List, ℕ, string_bytes, subst}
use Rattle.relay_command.specs.Run.{DrillsFolder}
use Rattle.relay_command.proofs.program.perform.Goals as goal

pub returns-in-Drill : goal.returns-in-Drill
returns-in-Drill g c =
    let gives : List ℕ → List ℕ → Type 0 = λ folder script. DrillsFolder folder script
    c.in-Drill.reasons c.drill_in.result (g.R.Read.remaining c.args.reader.now)
    (g.W.Write.contents c.args.writer.now) (g.W.Write.contents c.drill_in.new.writer) in
    rw c.in-Drill.is
    (subst (gives (string_bytes c.in-Drill.folder)) c.deref-in-Drill.ensures
    (subst (λ folder. gives folder c.deref-in-Drill.result.now) c.deref.ensures
    c.drill_in.ensures))
