use Rattle.std.proofs.Common.{◌≡◌, ◌+◌, length}
use Rattle.cyc_buffer.specs.BufferState.{buffer_of}
use Rattle.cyc_buffer.specs.Reads.{StaysHeld}
use Rattle.cyc_buffer.specs.Scanning.{HasScanned, IsScan}
use Rattle.cyc_buffer.proofs.scanning.scan_blocks.Given as goal

-- the blocks before this one are read, and the store holds what it held
abbrev pub invariant-loop-block : goal.invariant-loop-block
invariant-loop-block g l = record {
  held : StaysHeld g.S.BlockStore l.initial.store l.store;
  failures : g.S.BlockStore.failures l.store ≡ g.S.BlockStore.failures l.initial.store;
  calls : g.S.BlockStore.calls l.store ≡ g.S.BlockStore.calls l.initial.store + l.block;
  count : l.blocks ≡ length (g.S.BlockStore.blocks l.initial.store);
  number : l.scan.line.number ≡ l.number;
  blocks : l.scan.line.blocks ≡ l.blocks;
  first_cycle : l.scan.line.first_cycle ≡ l.first_cycle;
  sound : IsScan (buffer_of l.scan.line) l.scan.line.cycle l.scan.line.used l.scan.tokens.items
      l.scan.run l.block;
  scanned : g.S.BlockStore.honest l.initial.store → HasScanned (buffer_of l.scan.line)
      (g.S.BlockStore.blocks l.initial.store) l.scan.line.cycle l.scan.line.used
      l.scan.tokens.items l.scan.run l.block;
}
