-- What is live of both cycles.
use Rattle.std.proofs.Common.{arith}
use Rattle.news_terms.specs.Places.{on_line}
use Rattle.cyc_buffer.proofs.LiveLemmas.{both_listed, cycle_rises, on_line_within}
use Rattle.cyc_buffer.proofs.found.list_found.Goals as goal

pub returns-clause-listed : goal.returns-clause-listed
returns-clause-listed c =
    both_listed c.args.scan.now.line c.args.scan.now.tokens.items c.in_ok-tokens.tokens.items
    c.list_live.new.tokens.items c.in_ok-tokens.ensures.listed c.in_ok-list_live.ensures.listed

pub returns-clause-order : goal.returns-clause-order
returns-clause-order c =
    let line = c.args.scan.now.line in
    let from = on_line line.blocks line.first_cycle 0 in
    on_line_within line.blocks from (on_line line.blocks line.cycle line.blocks)
    (on_line line.blocks line.cycle line.used) c.list_live.new.tokens.items
    (omega (arith, cycle_rises line.blocks line.first_cycle line.cycle c.requires.sound.begun))
    (λ t is. (c.requires.sound.within t ((both_listed line c.args.scan.now.tokens.items
    c.in_ok-tokens.tokens.items c.list_live.new.tokens.items c.in_ok-tokens.ensures.listed
    c.in_ok-list_live.ensures.listed t).0 is).0).ends)
    (c.in_ok-list_live.ensures.order from c.in_ok-tokens.ensures.order)
