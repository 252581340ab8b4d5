use Rattle.std.proofs.Common.{flat_map, take}
use Rattle.relay_explain.specs.Callers.{said_range_text}
use Rattle.relay_explain.specs.Text.{Adds}
use Rattle.relay_explain.proofs.callers.put_ranges.Given as goal

-- what is told of the ranges so far is there
abbrev pub invariant-loop-said : goal.invariant-loop-said
invariant-loop-said l =
    Adds l.fn.text l.text
    (flat_map (said_range_text l.fn.name l.fn.all) (take l.said-index l.fn.all))
