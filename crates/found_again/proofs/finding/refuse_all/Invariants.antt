use Rattle.std.proofs.Common.{ℕ, List, take}
use Rattle.id_history.specs.Shards.{KeepsAll}
use Rattle.relay_model.specs.Claims.{Claim}
use Rattle.found_again.specs.Finding.{all_refused}
use Rattle.found_again.proofs.finding.refuse_all.Given as goal

-- the ids so far were refused
abbrev pub invariant-loop-one : goal.invariant-loop-one
invariant-loop-one l =
    (claims : List ℕ → Claim) → KeepsAll l.fn.shards claims
    → KeepsAll l.shards (all_refused claims (take l.one-index l.listed))
