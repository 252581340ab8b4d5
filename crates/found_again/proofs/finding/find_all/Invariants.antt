use Rattle.std.proofs.Common.{ℕ, List, take}
use Rattle.std.specs.List.{AllByRecursion}
use Rattle.id_history.specs.Shards.{KeepsAll}
use Rattle.relay_model.specs.Claims.{Claim}
use Rattle.found_again.specs.Finding.{all_found}
use Rattle.found_again.specs.Texts.{HasSome}
use Rattle.found_again.proofs.finding.find_all.Given as goal

-- the texts so far were found, and each is some id's or none's
abbrev pub invariant-loop-text : goal.invariant-loop-text
invariant-loop-text l = record {
  keeps : (claims : List ℕ → Claim) → KeepsAll l.fn.shards claims
      → KeepsAll l.shards (all_found l.now claims (take l.text-index l.texts));
  some : AllByRecursion HasSome (take l.text-index l.texts);
}
