use Rattle.std.proofs.Common.{◌≡◌, ◌≤◌, length, take, vec_len, vec_capacity}
use Rattle.post_history.proofs.passing.put_all.Given as goal

-- the fronts passed so far were put, and there is room for the others
abbrev pub invariant-loop-front : goal.invariant-loop-front
invariant-loop-front l = record {
  items : l.list.items ≡ take l.front-index l.fronts;
  len : vec_len l.list ≡ l.front-index;
  room : length l.fronts ≤ vec_capacity l.list;
}
