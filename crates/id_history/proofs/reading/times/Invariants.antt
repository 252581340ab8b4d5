use Rattle.std.proofs.Common.{◌≡◌, ◌-◌, map}
use Rattle.id_history.specs.Reading.{times_at}
use Rattle.id_history.proofs.Loop.{with_front}
use Rattle.id_history.proofs.reading.times.Given as goal

-- what was read so far, and what is still read, is what is read
abbrev pub invariant-loop : goal.invariant-loop
invariant-loop g l =
    let at = g.T.Readable.at in
    with_front (map g.T.Readable.said l.all.items) (times_at at (l.count - l.counter) l.rest)
    ≡ times_at at l.count l.bytes
