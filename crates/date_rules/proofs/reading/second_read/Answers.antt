use Rattle.std.proofs.Common.{ap, rules, ◌∙◌, w64, FitsSigned, Some}
use Rattle.std.proofs.lemmas.Int.{to_z-of_z}
use Rattle.jiff_fmt.specs.Rfc2822.{timestamp}
use Rattle.date_rules.specs.Seconds.{whole_second}
use mir.Syntax.{w128}
use Rattle.date_rules.proofs.reading.second_read.Goals as goal

pub returns-in-Ok : goal.returns-in-Ok
returns-in-Ok c =
    let wide : FitsSigned w128 c.in-Ok.moment.nanosecond = search rules in
    let fits : FitsSigned w64 c.whole_second.result = search rules in
    let second = simp to_z-of_z at c.whole_second.ensures in
    let read = ap whole_second c.in-Ok.ensures in
    let strict = ap (λ b. whole_second (timestamp b c.args.text.now)) c.new.ensures in
    simp to_z-of_z (ap Some second ∙ read ∙ strict)
