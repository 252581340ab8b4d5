use Rattle.std.proofs.Common.{◌≡◌, ◌++◌, map, take}
use Rattle.std.specs.Prelude.{flat_map}
use Rattle.news_terms.specs.Ring.{last_of}
use Rattle.found_again.specs.Lists.{texts_of}
use Rattle.found_again.proofs.DealLemmas.{HaveGiven}
use Rattle.found_again.proofs.dealing.deal_round.Given as goal

-- the buffers so far have given their last
abbrev pub invariant-loop-place : goal.invariant-loop-place
invariant-loop-place l = record {
  left : HaveGiven (map texts_of l.fn.buffers.items) (map texts_of l.buffers.items) l.place;
  given : l.newest_first.items
      ≡ l.fn.newest_first.items
      ++ flat_map (last_of 1) (take l.place (map texts_of l.fn.buffers.items));
}
