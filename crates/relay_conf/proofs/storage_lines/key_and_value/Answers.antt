use Rattle.std.proofs.Common.{get_or}
use Rattle.std.specs.Prelude.{◌==◌}
use Rattle.std.proofs.lemmas.Bool.{ne_eqb}
use Rattle.relay_conf.proofs.Numbered.{later}
use Rattle.relay_conf.proofs.storage_lines.key_and_value.Goals as goal

pub loop-at-preserved : goal.loop-at-preserved
loop-at-preserved c =
    let line = c.args.line.now in
    later (λ octet. octet == 58) line c.loop-at.at _ 0 c.loop-at-test.true c.loop-at.invariant
    (ne_eqb (get_or line c.loop-at.at 0) 58 c.if-octet-eq58.false)
