use Rattle.std.proofs.Common.{◌≡◌, ◌+◌, ◌++◌, take, vec_len, vec_capacity}
use Rattle.std.specs.List.{enumerate_from}
use Rattle.feed_queue.proofs.rings.numbered.Given as goal

-- with those that are left, numbered from here on, they are all; and there is room for them
abbrev pub invariant-loop-token : goal.invariant-loop-token
invariant-loop-token l = record {
  number : l.number + l.token-iterator.n ≡ l.passed + l.count;
  count : vec_len l.items + l.token-iterator.n ≡ l.count;
  room : vec_capacity l.items ≡ l.count;
  items : l.items.items
      ++ enumerate_from (l.number + 1) (take l.token-iterator.n l.token-iterator.iter)
      ≡ enumerate_from (l.passed + 1) (take l.count l.tokens.items);
}
