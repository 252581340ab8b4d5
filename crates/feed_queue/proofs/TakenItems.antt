-- How many items a take answers.
use Rattle.std.proofs.Common.{◌≤◌, ◌+◌, ℕ, ap, arith}
use Rattle.std.proofs.lemmas.List.{length-map, length-take}
use Rattle.std.proofs.lemmas.List.FromFn.{length-enumerate_from}
use Rattle.std.specs.Prelude.{drop, length, take}
use Rattle.feed_queue.specs.Taking.{IsTaken, item_view}
use Rattle.feed_queue.specs.declared.desk.Taken.{Taken}
use Rattle.news_terms.specs.Ring.{passed_now}
use Rattle.relay_model.specs.Shares.{as_ring}
use Rattle.relay_model.specs.State.{Feed}

-- no more items are taken than were asked for
pub few_items : (taken : Taken) (size most : ℕ) (feed : Feed) → IsTaken taken size most feed
    → length taken.items.items ≤ most
few_items taken size most feed is =
    let passed = passed_now size (as_ring feed) in
    let one = take most (drop passed feed.gained) in
    omega (
      arith,
      ap length is.items,
      length-map taken.items.items item_view,
      length-enumerate_from (passed + 1) one,
      length-take most (drop passed feed.gained),
    )
