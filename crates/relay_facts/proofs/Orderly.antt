-- What holds of every world, but for what is on its way to the sessions, what is counted and what
-- is on record: it is kept for itself, and those are kept where it holds.
use Rattle.relay_model.specs.Awaited.{IsAwaited}
use Rattle.relay_model.specs.Counted.{IsCounted}
use Rattle.relay_model.specs.Invariants.{IsNumbered, IsPlaced, IsSized, IsWell}
use Rattle.relay_model.specs.OnRecord.{IsOnRecord}
use Rattle.relay_model.specs.Terms.{Terms}
use Rattle.relay_model.specs.World.{World}

-- the numbers, the places of jobs and the sizes are in order
pub record IsOrderly (w : Terms) (x : World) : Type 0 where
  pub numbered : IsNumbered w x.state
  pub placed : IsPlaced w x
  pub sized : IsSized w x.state

-- a world that is well is in order
pub orderly_of : (w : Terms) (x : World) → IsWell w x → IsOrderly w x
orderly_of w x well =
    record { numbered = well.numbered; placed = well.placed; sized = well.sized }

-- a world that is in order, of which the others hold, is well
pub well_of : (w : Terms) (x : World) → IsOrderly w x → IsAwaited x → IsCounted w x
    → IsOnRecord w x.state → IsWell w x
well_of w x orderly awaited counted on_record =
    record {
      numbered = orderly.numbered;
      placed = orderly.placed;
      sized = orderly.sized;
      awaited = awaited;
      counted = counted;
      on_record = on_record;
    }
