use Rattle.std.proofs.Common.{◌≡◌, ◌+◌, ◌++◌, vec_len, vec_capacity, length, map}
use Rattle.std.specs.List.{AllByRecursion}
use Rattle.cyc_token.specs.Token.{token_view}
use Rattle.news_terms.specs.Token.{IsToken}
use Rattle.feed_queue.proofs.rings.all_of.Given as goal

-- with those that are left they are all, and there is room for them
abbrev pub invariant-loop-token : goal.invariant-loop-token
invariant-loop-token l = record {
  count : vec_len l.items + length l.token-iterator ≡ length l.tokens.items;
  room : vec_capacity l.items ≡ length l.tokens.items;
  items : l.items.items ++ l.token-iterator ≡ l.tokens.items;
  fits : AllByRecursion IsToken (map token_view l.items.items);
}
