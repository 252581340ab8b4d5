-- What is live of the cycle before the front's.
use Rattle.std.proofs.Common.{◌-◌, subst, arith}
use Rattle.news_terms.specs.Places.{on_line}
use Rattle.cyc_buffer.specs.Crash.{AreOnLine}
use Rattle.cyc_buffer.proofs.LiveLemmas.{before_listed, cycle_end, cycle_rises, none_on_line}
use Rattle.cyc_buffer.proofs.found.list_before.Goals as goal

pub returns-then-scan-clause-listed : goal.returns-then-scan-clause-listed
returns-then-scan-clause-listed c =
    before_listed c.args.scan.now.line c.args.scan.now.tokens.items c.new-tokens.result.items
    c.list_live.new.tokens.items c.new-tokens.ensures.items c.if-scan.true
    c.in_ok-list_live.ensures.listed

pub returns-then-scan-clause-order : goal.returns-then-scan-clause-order
returns-then-scan-clause-order c =
    let line = c.args.scan.now.line in
    let from = on_line line.blocks line.first_cycle 0 in
    subst (λ n. AreOnLine line.blocks from n c.list_live.new.tokens.items)
    (cycle_end line.blocks line.cycle (omega (arith, c.if-scan.true)))
    (c.in_ok-list_live.ensures.order from
    (none_on_line line.blocks from (on_line line.blocks (line.cycle - 1) 0)
    c.new-tokens.result.items c.new-tokens.ensures.items
    (cycle_rises line.blocks line.first_cycle (line.cycle - 1) (omega (arith, c.if-scan.true)))))
