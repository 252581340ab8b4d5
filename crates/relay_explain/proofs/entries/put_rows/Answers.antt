use Rattle.std.proofs.Common.{◌<◌, arith, length}
use Rattle.relay_explain.specs.Entries.{entry_text}
use Rattle.relay_explain.proofs.Told.{told_each, told_next}
use Rattle.relay_explain.proofs.Puts.{nothing}
use Rattle.relay_explain.proofs.entries.put_rows.Goals as goal

pub loop-row-init : goal.loop-row-init
loop-row-init c = nothing _

pub loop-row-preserved : goal.loop-row-preserved
loop-row-preserved c =
    let there : c.loop-row.row-index < length c.args.rows.now =
    omega (arith, c.loop-row-test.true) in
    told_next (entry_text c.args.config.now c.args.rows.now) c.args.rows.now c.loop-row.row-index
    c.row-item.result there c.loop-row.invariant
    (rw (← c.row-item.is) c.put_entry-text.ensures)

pub returns : goal.returns
returns c =
    told_each (entry_text c.args.config.now c.args.rows.now) c.args.rows.now c.loop-row.row-index
    (omega (arith, c.loop-row-test.false)) c.loop-row.invariant
