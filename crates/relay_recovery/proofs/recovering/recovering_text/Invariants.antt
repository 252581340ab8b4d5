use Rattle.std.proofs.Common.{◌≡◌, ◌++◌, take}
use Rattle.std.specs.Prelude.{codes, flat_map}
use Rattle.relay_recovery.specs.Recovering.{buffer_line}
use Rattle.relay_recovery.proofs.recovering.recovering_text.Given as goal

-- the lines of the buffers so far
abbrev pub invariant-loop-buffer : goal.invariant-loop-buffer
invariant-loop-buffer l =
    l.text.items ≡ codes "recovering\n" ++ flat_map buffer_line (take l.buffer-index l.buffers)
