-- What was cut is what is cut off the joined octets so far, and nothing more is whole.
use Rattle.std.proofs.Common.{◌≡◌, ◌++◌, [], drop, map}
use Rattle.std.specs.List.{flat_map}
use Rattle.stream_cut.specs.Cuts.{cut_off, cuts_of}
use Rattle.stream_cut.specs.Steps.{GoesOn}
use Rattle.stream_cut.proofs.run.cut_all.Given as goal

abbrev pub invariant-loop-piece : goal.invariant-loop-piece
invariant-loop-piece l = record {
  sound : GoesOn (drop l.next l.wants) l.cutter;
  limit : l.cutter.limit ≡ l.max_block;
  waits : cuts_of l.max_block (drop l.next l.wants) l.cutter.unread ≡ [];
  cut : map cut_off l.cuts.items
      ++ cuts_of l.max_block (drop l.next l.wants)
      (l.cutter.unread ++ flat_map (λ piece. piece.items) (drop l.piece-index l.pieces))
      ≡ cuts_of l.max_block l.wants (flat_map (λ piece. piece.items) l.pieces);
}
