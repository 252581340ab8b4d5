use Rattle.std.proofs.Common.{◌≡◌, ◌++◌, Bool, List, length}
use Rattle.relay_devices.specs.Syncing.{round_of}
use Rattle.relay_devices.proofs.syncing.flush_round.Given as goal

-- each file so far was flushed once, and each failure told
abbrev pub invariant-loop-file : goal.invariant-loop-file
invariant-loop-file g l =
    (answers : List Bool) × (length answers ≡ l.file-index)
    × (g.S.Syncer.done l.syncer ≡ g.S.Syncer.done l.fn.syncer ++ round_of l.files answers)
