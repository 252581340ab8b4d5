use Rattle.std.proofs.Common.{◌≡◌, map, take}
use Rattle.relay_names.proofs.configured.buffer_names.Given as goal

-- the names are those of the buffers so far
abbrev pub invariant-loop-buffer : goal.invariant-loop-buffer
invariant-loop-buffer l =
    l.names.items ≡ map (λ buffer. buffer.name) (take l.buffer-index l.buffers)
