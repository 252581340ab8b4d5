-- What it means that events are answered so.
use Rattle.std.specs.Prelude.{◌≡◌, List}
use Rattle.relay_model.specs.Run.{Event}
use Rattle.relay_model.specs.Terms.{Terms}
use Rattle.relay_model.specs.World.{World, Output}
use Rattle.relay_laws.specs.Calm.{CalmRun}

-- from this world on the events may be answered so, and where memory is there and no device fails
-- they are answered in no other way
pub record AreAnswered (w : Terms) (x : World) (events : List Event) (outputs : List Output)
    : Type 0 where
  pub after : World
  pub may : CalmRun w x events outputs after
  pub only : (others : List Output) (y : World) → CalmRun w x events others y → others ≡ outputs

-- from this world on the events may be answered, and where memory is there and no device fails they
-- lead to a world that is such
pub record LeadTo (w : Terms) (x : World) (events : List Event) (such : World → Type 0)
    : Type 0 where
  pub outputs : List Output
  pub after : World
  pub may : CalmRun w x events outputs after
  pub only : (others : List Output) (y : World) → CalmRun w x events others y → such y
