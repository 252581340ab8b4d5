use Rattle.std.proofs.Common.{◌≡◌, ℕ, List, ◌++◌, length, option_map}
use Rattle.std.specs.Io.KnownBytes.{Appends}
use Rattle.article_verdict.specs.Verdict.{reason_view}
use Rattle.relay_drill.specs.Print.{note_of, noted_lines}
use Rattle.relay_drill.proofs.print.print_noted.Given as goal

abbrev pub invariant-loop-rest : goal.invariant-loop-rest
invariant-loop-rest g l =
    (done : List ℕ) × Appends (g.W.Write.contents l.fn.writer) (g.W.Write.contents l.writer) done
    × (noted_lines l.session l.fn.octets (note_of (option_map reason_view l.why))
    ≡ done ++ noted_lines l.session l.rest (note_of (option_map reason_view l.why)))

abbrev pub decreases-loop-rest : goal.decreases-loop-rest
decreases-loop-rest g l = length l.rest
