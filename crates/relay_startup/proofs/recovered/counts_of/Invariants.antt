use Rattle.std.proofs.Common.{◌≡◌, ◌<◌, ℕ, get_or, map, take}
use Rattle.id_history.specs.Views.{id_view}
use Rattle.relay_startup.specs.Recovered.{count_in}
use Rattle.relay_startup.proofs.recovered.counts_of.Given as goal

-- the ids so far are counted
abbrev pub invariant-loop-one : goal.invariant-loop-one
invariant-loop-one l =
    (b : ℕ) → b < 256 → get_or l.counts b 0 ≡ count_in b (map id_view (take l.one-index l.ids))
