-- All blocks are read in the end.
use Rattle.std.proofs.Common.{◌≡◌, length, subst, arith}
use Rattle.cyc_buffer.specs.BufferState.{buffer_of}
use Rattle.cyc_buffer.specs.Scanning.{HasScanned}
use Rattle.cyc_buffer.proofs.scanning.scan_blocks.Goals as goal

pub returns-clause-scanned : goal.returns-clause-scanned
returns-clause-scanned g c honest =
    let scan = c.loop-block.scan in
    let blocks = g.S.BlockStore.blocks c.args.store.now in
    let at_end : c.loop-block.block ≡ length blocks = omega (
      arith,
      c.loop-block-test.false,
      c.loop-block.auto.block-end,
      c.loop-block.invariant.count,
    ) in
    subst (λ n. HasScanned (buffer_of scan.line) blocks scan.line.cycle scan.line.used
    scan.tokens.items scan.run n) at_end (c.loop-block.invariant.scanned honest)
