use Rattle.std.proofs.Common.{All, take}
use Rattle.buffer_files.specs.Files.{WasBlank}
use Rattle.buffer_files.proofs.files.are_blank.Given as goal

-- no buffer was found in any file so far
abbrev pub invariant-loop-store : goal.invariant-loop-store
invariant-loop-store g l = All WasBlank (take l.store-index l.stores)
