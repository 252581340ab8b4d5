use Rattle.std.proofs.Common.{◌≡◌, ◌≤◌, ◌++◌, ℕ, false, length, map, Some, slice_get}
use Rattle.std.proofs.Common.{vec_capacity, vec_len}
use Rattle.block_shelf.specs.Stopping.{IsStopped}
use Rattle.cyc_buffer.specs.Head.{is_busy}
use Rattle.cyc_buffer.specs.declared.buffer.Buffer.{Buffer}
use Rattle.live_store.specs.Steps.{buffer_of}
use Rattle.relay_live.specs.Stopping.{AreKnown}
use Rattle.relay_live.proofs.stopping.shut_all.Given as goal

-- the buffers so far are stopped, or one has failed
abbrev pub invariant-loop-buffer : goal.invariant-loop-buffer
invariant-loop-buffer g l = record {
  all : l.yielded ++ l.buffer-iterator.rest.items ≡ l.fn.buffers.items;
  stopped : ((b : ℕ) (code : Buffer g.row.S.Denot g.S.BlockStore)
      → slice_get (map buffer_of l.fn.buffers.items) b ≡ Some code → is_busy code ≡ false)
      → IsStopped l.fn.stop (map buffer_of l.yielded) l.failed l.stores.items;
  known : AreKnown g.S.BlockStore g.J.StorePremises l.fn.stop l.failed l.stores.items;
  count : vec_len l.stores ≡ length l.yielded;
  room : length l.fn.buffers.items ≤ vec_capacity l.stores;
}
