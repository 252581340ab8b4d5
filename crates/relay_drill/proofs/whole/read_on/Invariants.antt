use Rattle.std.specs.Io.KnownBytes.{Consumes}
use Rattle.relay_drill.proofs.whole.read_on.Given as goal

abbrev pub invariant-loop-turn : goal.invariant-loop-turn
invariant-loop-turn g l = Consumes (g.R.Read.remaining l.fn.reader)
    (g.R.Read.remaining l.reader) l.text.items
