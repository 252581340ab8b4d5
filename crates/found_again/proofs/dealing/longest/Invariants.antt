use Rattle.std.proofs.Common.{◌≡◌, max, map, drop}
use Rattle.found_again.specs.Dealing.{longest}
use Rattle.found_again.specs.Lists.{texts_of}
use Rattle.found_again.proofs.dealing.longest.Given as goal

-- the longest so far, or of those to come
abbrev pub invariant-loop-buffer : goal.invariant-loop-buffer
invariant-loop-buffer l =
    max l.most (longest (map texts_of (drop l.buffer-index l.buffers)))
    ≡ longest (map texts_of l.buffers)
