use Rattle.std.proofs.Common.{◌≡◌, ◌++◌, drop}
use Rattle.relay_serve.specs.Filled.{sizes_text}
use Rattle.relay_serve.proofs.filled.put_sizes.Given as goal

-- the lines so far stand before those that are left
abbrev pub invariant-loop-buffer : goal.invariant-loop-buffer
invariant-loop-buffer l =
    l.text.items ++ sizes_text (drop l.buffer-index l.fn.buffers) l.left
    ≡ l.fn.text.items ++ sizes_text l.fn.buffers l.fn.figures
