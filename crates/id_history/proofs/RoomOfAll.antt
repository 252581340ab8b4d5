-- How much room what is left of sixteen shards takes.
use Rattle.std.proofs.Common.{◌≡◌, ◌∙◌, ◌≤◌, ◌<◌, ◌+◌, ap, arith, ℕ, length, take, max}
use Rattle.std.proofs.Math.ListN.{get_or}
use Rattle.std.proofs.lemmas.List.{take_all}
use Rattle.std.proofs.lemmas.List.Sums.{sum_by_more, sum_by-take-le}
use Rattle.std.specs.List.{sum_by}
use Rattle.id_history.specs.LastingIn.{lasting_count, all_lasting}
use Rattle.id_history.specs.declared.claims.Shard.{Shard}
use Rattle.id_history.specs.declared.counts.Counts.{Counts}
use Rattle.id_history.specs.declared.shards.Shards.{Shards}
use Rattle.id_history.proofs.JoinLemmas.{Sums}

-- how many are left of one shard more
pub left_more : (shards : Shards) (one : Shard) (k had : ℕ) → one ≡ get_or shards.shards.items k one
    → k < length shards.shards.items → had ≡ sum_by lasting_count (take k shards.shards.items)
    → had + lasting_count one ≡ sum_by lasting_count (take (k + 1) shards.shards.items)
left_more shards one k had at there is = omega (
  arith,
  is,
  ap lasting_count at,
  sum_by_more lasting_count shards.shards.items k one there,
)

-- the counts of one shard more
pub lasting_more : (shards : Shards) (one : Shard) (k : ℕ) (before its after : Counts)
    → one ≡ get_or shards.shards.items k one → k < length shards.shards.items
    → Sums before its after
    → before.stored + before.refused ≡ sum_by lasting_count (take k shards.shards.items)
    → its.stored + its.refused ≡ lasting_count one
    → after.stored + after.refused ≡ sum_by lasting_count (take (k + 1) shards.shards.items)
lasting_more shards one k before its after at there sums had more = omega (
  arith,
  sums.stored,
  sums.refused,
  had,
  more,
  left_more shards one k (before.stored + before.refused) at there had,
)

-- after the last shard these are all
pub lasting_all : (shards : Shards) (k : ℕ) → length shards.shards.items ≤ k
    → sum_by lasting_count (take k shards.shards.items) ≡ all_lasting shards
lasting_all shards k all = ap (sum_by lasting_count) (take_all k shards.shards.items all)

-- the list that has room for all has it once those of one shard more are there
pub room_more : (shards : Shards) (one : Shard) (k len room longer after : ℕ)
    → one ≡ get_or shards.shards.items k one → k < length shards.shards.items
    → len ≡ sum_by lasting_count (take k shards.shards.items) → room ≡ all_lasting shards
    → longer ≡ len + lasting_count one → after ≡ max room longer
    → (longer ≡ sum_by lasting_count (take (k + 1) shards.shards.items))
    × (after ≡ all_lasting shards)
room_more shards one k len room longer after at there so_far all long grown =
    let more = left_more shards one k len at there so_far in (
      long ∙ more,
      omega (
        arith,
        all,
        long,
        grown,
        more,
        sum_by-take-le lasting_count shards.shards.items (k + 1),
      ),
    )
