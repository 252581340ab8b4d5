use Rattle.std.proofs.Common.{◌≡◌}
use Rattle.relay_live.proofs.keeper.Keeper.settle.Given as goal

-- the share is as it was
abbrev pub invariant-loop : goal.invariant-loop
invariant-loop g l =
    (l.share.amount ≡ l.initial.share.amount) × (l.share.parts ≡ l.initial.share.parts)
