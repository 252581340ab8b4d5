use Rattle.std.proofs.Common.{take}
use Rattle.buffer_repair.specs.Finding.{tokens_at}
use Rattle.found_texts.specs.Held.{AreHeld, NoneFailed}
use Rattle.found_texts.specs.Reading.{AreAmong, ReadsEach}
use Rattle.found_texts.proofs.reading.read_buffer.Given as goal

-- the texts under the tokens so far are read; nothing was written, and no device has failed
abbrev pub invariant-loop-place : goal.invariant-loop-place
invariant-loop-place g l = record {
  reads : ReadsEach l.relay (take l.place (tokens_at l.initial.found_set l.number))
      l.initial.found_set l.texts.items l.found_set;
  among : AreAmong (tokens_at l.initial.found_set l.number) l.texts.items;
  held : AreHeld l.initial.found_set l.found_set;
  unfailed : NoneFailed l.initial.found_set l.found_set;
}
