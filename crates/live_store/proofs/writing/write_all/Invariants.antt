use Rattle.std.proofs.Common.{◌≡◌}
use Rattle.live_store.specs.Handles.{blocks_of, shown_of, written_with}
use Rattle.live_store.proofs.writing.write_all.Given as goal

-- so many blocks were written with the handle, which is still the record's
abbrev pub invariant-loop-block : goal.invariant-loop-block
invariant-loop-block g l = record {
  shown : shown_of l.entered ≡ shown_of l.fn.entered;
  blocks : blocks_of l.entered ≡ blocks_of l.fn.entered;
  written : written_with l.entered ≡ l._block;
}
