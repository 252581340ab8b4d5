use Rattle.std.proofs.Common.{◌≡◌, drop}
use Rattle.std.specs.Prelude.{bytes_eq}
use Rattle.std.specs.List.{list_any}
use Rattle.relay_conf.proofs.cycbuff.is_among.Given as goal

-- no name so far is this
abbrev pub invariant-loop-other : goal.invariant-loop-other
invariant-loop-other l =
    list_any (bytes_eq l.name) (drop l.other-index l.names) ≡ list_any (bytes_eq l.name) l.names
