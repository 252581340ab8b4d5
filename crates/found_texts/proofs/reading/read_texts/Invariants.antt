use Rattle.std.proofs.Common.{take}
use Rattle.std.specs.Prelude.{flat_map}
use Rattle.block_shelf.specs.Each.{AreEach}
use Rattle.cyc_buffer.specs.declared.starting.Started.{Started}
use Rattle.found_again.specs.Lists.{all_of}
use Rattle.found_texts.specs.Held.{AreHeld, NoneFailed}
use Rattle.found_texts.specs.Reading.{AreOfBuffer, ReadsEach, tokens_of}
use Rattle.found_texts.proofs.reading.read_texts.Given as goal

-- the texts of the buffers so far are read; nothing was written, and no device has failed
abbrev pub invariant-loop-number : goal.invariant-loop-number
invariant-loop-number g l = record {
  reads : ReadsEach l.relay
      (flat_map (λ (one : Started g.row.S.Denot g.S.BlockStore). tokens_of one)
      (take l.number l.initial.found_set.found.items))
      l.initial.found_set (all_of l.texts.items) l.found_set;
  each : AreEach AreOfBuffer (take l.number l.initial.found_set.found.items) l.texts.items;
  held : AreHeld l.initial.found_set l.found_set;
  unfailed : NoneFailed l.initial.found_set l.found_set;
}
