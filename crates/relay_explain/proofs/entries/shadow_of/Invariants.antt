use Rattle.std.proofs.Common.{◌≡◌, drop}
use Rattle.std.specs.Prelude.{find}
use Rattle.relay_explain.specs.Entries.{Said, shadows}
use Rattle.relay_explain.proofs.entries.shadow_of.Given as goal

-- no entry so far shadows it
abbrev pub invariant-loop-first : goal.invariant-loop-first
invariant-loop-first l =
    find (λ (first : Said). shadows first l.row) (drop l.first-index l.rows)
    ≡ find (λ (first : Said). shadows first l.row) l.rows
