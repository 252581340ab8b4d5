use Rattle.std.proofs.Common.{◌≡◌, ◌+◌, drop, map}
use Rattle.std.specs.List.{position_or_len}
use Rattle.std.specs.Str.{bytes_eq}
use Rattle.relay_conf.specs.declared.cycbuff.BufferConf.{BufferConf}
use Rattle.relay_drill.proofs.words.buffer_of.Given as goal

-- none so far has the name
abbrev pub invariant-loop-place : goal.invariant-loop-place
invariant-loop-place l =
    position_or_len (bytes_eq l.name) (map (λ (b : BufferConf). b.name) l.buffers)
    ≡ l.place
    + position_or_len (bytes_eq l.name) (map (λ (b : BufferConf). b.name) (drop l.place l.buffers))
