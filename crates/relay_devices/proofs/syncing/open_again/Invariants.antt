use Rattle.std.proofs.Common.{◌≡◌, ◌≤◌, length, map, take}
use Rattle.std.specs.Prelude.{vec_capacity}
use Rattle.file_blocks.specs.Host.{held_identity}
use Rattle.relay_devices.specs.Syncing.{identity_in, name_in}
use Rattle.relay_devices.proofs.syncing.open_again.Given as goal

-- each file so far, by the name of its buffer, and room for the others
abbrev pub invariant-loop-buffer : goal.invariant-loop-buffer
invariant-loop-buffer g l = record {
  room : length l.settings.buffers.items ≤ vec_capacity l.files;
  count : length l.files.items ≡ l.buffer-index;
  names : map name_in l.files.items
      ≡ map (λ buffer. buffer.name) (take l.buffer-index l.settings.buffers.items);
  same : map identity_in l.files.items ≡ map held_identity (take l.buffer-index l.held);
}
