use Rattle.std.proofs.Common.{◌≡◌, drop, map}
use Rattle.line_words.specs.Words.{words}
use Rattle.line_words.specs.declared.words.Between.TheVariants.{Spaces}
use Rattle.relay_metrics.specs.Forms.{form_view}
use Rattle.relay_metrics.specs.Lines.{said_by}
use Rattle.relay_metrics.proofs.lines.first_said.Given as goal

-- the line has none of the forms so far
abbrev pub invariant-loop-form : goal.invariant-loop-form
invariant-loop-form l =
    said_by (map form_view (drop l.form-index l.forms)) (words Spaces l.line)
    ≡ said_by (map form_view l.forms) (words Spaces l.line)
