use Rattle.std.proofs.Common.{◌≡◌, ◌≤◌, length}
use Rattle.std.specs.Prelude.{AllPairs, vec_capacity}
use Rattle.buffer_files.specs.Files.{DifferentFiles}
use Rattle.buffer_files.proofs.files.hold_files.Given as goal

-- a file for each buffer so far, no two of them one, and room for the others
abbrev pub invariant-loop-buffer : goal.invariant-loop-buffer
invariant-loop-buffer g l = record {
  room : length l.settings.buffers.items ≤ vec_capacity l.files;
  count : length l.files.items ≡ l.buffer-index;
  apart : AllPairs DifferentFiles l.files.items;
}
