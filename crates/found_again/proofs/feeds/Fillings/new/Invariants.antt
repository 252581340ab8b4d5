use Rattle.std.proofs.Common.{◌≡◌, ◌≤◌, [], All, length, map, take, vec_len, vec_capacity}
use Rattle.found_again.specs.Filling.{size_of}
use Rattle.found_again.specs.declared.filling.Filling.{Filling}
use Rattle.found_again.proofs.feeds.Fillings.new.Given as goal

-- the rings so far have these sizes and no token, and there is room for all
abbrev pub invariant-loop-size : goal.invariant-loop-size
invariant-loop-size l = record {
  count : vec_len l.rings ≡ l.size-index;
  room : length l.sizes ≤ vec_capacity l.rings;
  sizes : map size_of l.rings.items ≡ take l.size-index l.sizes;
  empty : All (λ (one : Filling). one.newest_first.items ≡ []) l.rings.items;
}
