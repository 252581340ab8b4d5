use Rattle.std.proofs.Common.{◌≡◌, ◌+◌, drop}
use Rattle.relay_conf.specs.Cycbuff.{number_of}
use Rattle.relay_conf.proofs.cycbuff.place_of.Given as goal

-- no buffer so far has the name
abbrev pub invariant-loop-number : goal.invariant-loop-number
invariant-loop-number l =
    number_of l.buffers l.name ≡ l.number + number_of (drop l.number l.buffers) l.name
