use Rattle.std.proofs.Common.{◌≡◌, drop}
use Rattle.relay_explain.specs.Buffers.{first_with}
use Rattle.relay_explain.proofs.buffers.first_with.Given as goal

-- no buffer so far has the file
abbrev pub invariant-loop-buffer : goal.invariant-loop-buffer
invariant-loop-buffer l =
    first_with l.file (drop l.buffer-index l.buffers) ≡ first_with l.file l.buffers
