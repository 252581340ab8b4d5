use Rattle.std.proofs.Common.{◌≡◌, ◌≢◌, ℕ, refl, sym, ◌∙◌, Option, None, Some}
use Rattle.relay_model.specs.Asks.{reason_of}
use Rattle.relay_model.specs.Run.{Event, Step, Open, Bytes, Turn, Write, Break, Expire, Restart}
use Rattle.relay_model.specs.Run.{Does, IsRefused, WantsMemory, IsDone}
use Rattle.relay_model.specs.Terms.{Terms, Reason}
use Rattle.relay_model.specs.World.{World, Output, Refuses, Fault, Said, Silent, Speaks, Parts}
use Rattle.relay_model.specs.World.{output_of}
use Rattle.relay_laws.proofs.rules.refused_changes_nothing.Goals as goal

-- what a session says is no refusal
none_said : (s : ℕ) (said : Said) (why : Option Reason) (fault : Fault)
    → output_of s said why ≡ Refuses fault → ⊥
none_said s Silent why fault e = absurd (cc)
none_said s (Speaks reply) None fault e = absurd (cc)
none_said s (Speaks reply) (Some reason) fault e = absurd (cc)
none_said s (Parts reply) why fault e = absurd (cc)

-- nor is what an event is answered that is done
none_done : (w : Terms) (x : World) (event : Event) (output : Output) (y : World) (fault : Fault)
    → event ≢ Restart → output ≡ Refuses fault → Does w x event output y → ⊥
none_done w x (Open s peer) output y fault other e does = absurd (cc (e, does.0))
none_done w x (Bytes s piece) output y fault other e does = absurd (cc (e, does.2))
none_done w x (Turn s now) output y fault other e does =
    none_said s does.heard.said (reason_of does.due.ask) fault (sym does.output_is ∙ e)
none_done w x (Write g now) output y fault other e does = absurd (cc (e, does.0))
none_done w x (Break s) output y fault other e does = absurd (cc (e, does.2))
none_done w x (Expire shard now) output y fault other e does = absurd (cc (e, does.0))
none_done w x Restart output y fault other e does = other refl

-- so it was refused, or wants memory
unchanged : (w : Terms) (x y : World) (event : Event) (output : Output) (fault : Fault)
    → event ≢ Restart → output ≡ Refuses fault → Step w x event output y → y ≡ x
unchanged w x y event output fault other e (IsRefused why first said same) = same
unchanged w x y event output fault other e (WantsMemory takes said same) = same
unchanged w x y event output fault other e (IsDone free does) =
    absurd (none_done w x event output y fault other e does)

pub returns : goal.returns
returns c = λ w x y event fault other step.
    unchanged w x y event (Refuses fault) fault other refl step
