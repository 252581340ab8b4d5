use Rattle.std.proofs.Common.{◌≡◌, map, take}
use Rattle.std.specs.Prelude.{slice_get}
use Rattle.relay_names.specs.Names.{buffer_name}
use Rattle.relay_names.proofs.configured.numbered_names.Given as goal

-- the names are those of the buffers of the numbers so far
abbrev pub invariant-loop-number : goal.invariant-loop-number
invariant-loop-number l =
    l.names.items
    ≡ map (λ number. buffer_name (slice_get l.buffers number)) (take l.number-index l.numbers)
