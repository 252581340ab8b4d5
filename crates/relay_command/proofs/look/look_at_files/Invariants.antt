use Rattle.std.proofs.Common.{◌≡◌, ◌≤◌, length}
use Rattle.std.specs.Prelude.{vec_capacity}
use Rattle.relay_command.proofs.look.look_at_files.Given as goal

-- what lies at each buffer's file so far, and room for the others
abbrev pub invariant-loop-buffer : goal.invariant-loop-buffer
invariant-loop-buffer g l = record {
  room : length l.settings.buffers.items ≤ vec_capacity l.found;
  count : length l.found.items ≡ l.buffer-index;
}
