-- What an event does, and a list of events, in whatever world the code agrees with.
use Rattle.std.specs.Prelude.{Bool, true, false, List}
use Rattle.article_verdict.specs.Config.{terms_of}
use Rattle.block_shelf.specs.Leaving.{honestly}
use Rattle.cyc_block.specs.declared.store.BlockStore.{Ghosts}
use Rattle.relay_model.specs.Run as run
use Rattle.relay_model.specs.World as world
use Rattle.relay_model.specs.World.{World}
use Rattle.relay_core.specs.Agreement.{AgreesAs}
use Rattle.relay_core.specs.Views.{output_view}
use Rattle.relay_core.specs.declared.event.Output.{Output}
use Rattle.relay_core.specs.declared.system.System.{System}

-- the event is a step of the relay from this world to one with which the code then agrees, over
-- honest stores that a crash may leave or not
pub record StepsFrom {S : Type 0} {g : Ghosts S} (leaving : Bool) (event : run.Event)
    (old : System S g) (x : World) (output : Output) (new : System S g)
    : Type 0 where
  pub after : World
  pub agrees : AgreesAs (honestly leaving) new after
  pub is_step : run.Step (terms_of old.config) x event (output_view output) after

abbrev pub StepsBy : {S : Type 0} {g : Ghosts S} → Bool → run.Event → (old : System S g) → Output
    → (new : System S g) → Type 0
StepsBy leaving event old output new =
    (x : World) → AgreesAs (honestly leaving) old x → StepsFrom leaving event old x output new

-- of honest stores
abbrev pub Steps : {S : Type 0} {g : Ghosts S} → run.Event → (old : System S g) → Output
    → (new : System S g) → Type 0
Steps event old output new = StepsBy false event old output new

-- of such as a crash may leave: it may leave them behind it
abbrev pub StepsLeft : {S : Type 0} {g : Ghosts S} → run.Event → (old : System S g) → Output
    → (new : System S g) → Type 0
StepsLeft event old output new = StepsBy true event old output new

-- of either
abbrev pub StepsAs : {S : Type 0} {g : Ghosts S} → run.Event → (old : System S g) → Output
    → (new : System S g) → Type 0
StepsAs event old output new = (leaving : Bool) → StepsBy leaving event old output new

-- the events are a run of the relay from this world to one with which the code then agrees
pub record RunsFrom {S : Type 0} {g : Ghosts S} (leaving : Bool) (events : List run.Event)
    (old : System S g) (x : World) (outputs : List world.Output) (new : System S g)
    : Type 0 where
  pub after : World
  pub agrees : AgreesAs (honestly leaving) new after
  pub runs : run.Run (terms_of old.config) x events outputs after

abbrev pub RunsBy : {S : Type 0} {g : Ghosts S} → Bool → List run.Event → (old : System S g)
    → List world.Output → (new : System S g) → Type 0
RunsBy leaving events old outputs new =
    (x : World) → AgreesAs (honestly leaving) old x → RunsFrom leaving events old x outputs new

-- of honest stores
abbrev pub RunsTo : {S : Type 0} {g : Ghosts S} → List run.Event → (old : System S g)
    → List world.Output → (new : System S g) → Type 0
RunsTo events old outputs new = RunsBy false events old outputs new

-- of such as a crash may leave: it may leave them behind it
abbrev pub RunsLeft : {S : Type 0} {g : Ghosts S} → List run.Event → (old : System S g)
    → List world.Output → (new : System S g) → Type 0
RunsLeft events old outputs new = RunsBy true events old outputs new

-- of either
abbrev pub RunsAs : {S : Type 0} {g : Ghosts S} → List run.Event → (old : System S g)
    → List world.Output → (new : System S g) → Type 0
RunsAs events old outputs new = (leaving : Bool) → RunsBy leaving events old outputs new
