use Rattle.std.proofs.Common.{◌==◌, ◌∙◌, map, sym}
use Rattle.line_words.specs.Parts.{parts_after}
use Rattle.line_words.proofs.Cuts.{some_part}
use Rattle.relay_drill.proofs.Scripts.{crash_of_words}
use Rattle.relay_drill.proofs.script.crash.Goals as goal

-- words follow
pub returns-in-Some : goal.returns-in-Some
returns-in-Some c =
    let parts = some_part (λ other. other == 32) c.in-Some.field-0.now in
    c.crash_at.ensures
    ∙ sym (crash_of_words (map (λ buffer. buffer.name) c.args.buffers.now)
    (parts_after 32 c.args.rest) parts.0 parts.1 (rw c.in-Some.is parts.2))
