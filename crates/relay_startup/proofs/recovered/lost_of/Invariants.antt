use Rattle.std.proofs.Common.{◌≡◌, ◌<◌, ℕ, get_or, map, take}
use Rattle.cyc_block.specs.Heads.{head_view}
use Rattle.id_history.specs.Views.{id_view}
use Rattle.relay_startup.specs.Recovered.{lost_in}
use Rattle.relay_startup.proofs.recovered.lost_of.Given as goal

-- what was lost of the ids so far is counted
abbrev pub invariant-loop-one : goal.invariant-loop-one
invariant-loop-one l =
    (b : ℕ) → b < 256 → get_or l.counts b 0
    ≡ lost_in (map head_view l.heads) (map id_view l.found) b
    (map id_view (take l.one-index l.last))
