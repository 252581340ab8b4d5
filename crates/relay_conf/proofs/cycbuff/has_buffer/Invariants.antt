use Rattle.std.proofs.Common.{◌≡◌, drop, map}
use Rattle.std.specs.Prelude.{bytes_eq}
use Rattle.std.specs.List.{list_any}
use Rattle.relay_conf.proofs.cycbuff.has_buffer.Given as goal

-- no buffer so far has the name
abbrev pub invariant-loop-buffer : goal.invariant-loop-buffer
invariant-loop-buffer l =
    list_any (bytes_eq l.name) (map (λ buffer. buffer.name) (drop l.buffer-index l.buffers))
    ≡ list_any (bytes_eq l.name) (map (λ buffer. buffer.name) l.buffers)
