use Rattle.std.proofs.Common.{All, take}
use Rattle.buffer_files.specs.Files.{DifferentFiles}
use Rattle.buffer_files.proofs.files.is_one_of.Given as goal

-- it is none of the others so far
abbrev pub invariant-loop-other : goal.invariant-loop-other
invariant-loop-other l = All (DifferentFiles l.file) (take l.other-index l.others)
