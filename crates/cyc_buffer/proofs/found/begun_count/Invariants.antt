use Rattle.std.proofs.Common.{◌≡◌, ◌+◌, take}
use Rattle.cyc_buffer.specs.Scanning.{passed_on}
use Rattle.cyc_buffer.specs.Starting.{blocks_in}
use Rattle.cyc_buffer.proofs.found.begun_count.Given as goal

-- the blocks of the articles so far are taken off, but one of each
abbrev pub invariant-loop-token : goal.invariant-loop-token
invariant-loop-token l =
    l.begun + blocks_in (take l.token-index l.tokens) ≡ passed_on l.line + l.token-index
