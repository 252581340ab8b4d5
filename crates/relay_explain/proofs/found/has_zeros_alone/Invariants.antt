use Rattle.std.proofs.Common.{◌≡◌, ◌==◌, drop, ℕ}
use Rattle.std.specs.List.{list_all}
use Rattle.relay_explain.proofs.found.has_zeros_alone.Given as goal

-- each octet so far is zero
abbrev pub invariant-loop-octet : goal.invariant-loop-octet
invariant-loop-octet l =
    list_all (λ (c : ℕ). c == 0) (drop l.octet-index l.front)
    ≡ list_all (λ (c : ℕ). c == 0) l.front
