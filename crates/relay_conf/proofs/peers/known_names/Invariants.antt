use Rattle.std.proofs.Common.{◌≡◌, drop}
use Rattle.relay_conf.specs.RelayDraft.{first_unknown}
use Rattle.relay_conf.proofs.peers.known_names.Given as goal

-- the names passed are of peers
abbrev pub invariant-loop-one : goal.invariant-loop-one
invariant-loop-one l =
    first_unknown l.peers l.named ≡ first_unknown l.peers (drop l.one-index l.named)
