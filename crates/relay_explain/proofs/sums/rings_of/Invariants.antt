use Rattle.std.proofs.Common.{◌≡◌, ◌≤◌, ◌*◌, ◌^◌, take}
use Rattle.relay_explain.specs.Sums as terms
use Rattle.relay_explain.proofs.sums.rings_of.Given as goal

-- what is added up is of those so far, and no more than so much for each
abbrev pub invariant-loop-feed : goal.invariant-loop-feed
invariant-loop-feed l =
    (l.octets ≡ terms.rings_of (take l.feed-index l.feeds)) × (l.octets ≤ l.feed-index * 2 ^ 36)
