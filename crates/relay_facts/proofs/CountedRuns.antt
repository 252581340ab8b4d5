-- What is counted stays counted: each step of each event.
use Rattle.std.proofs.Common.{refl, sym, subst}
use Rattle.relay_model.specs.Counted.{IsCounted}
use Rattle.relay_model.specs.Run.{Event, Open, Bytes, Turn, Write, Break, Expire, Restart, Step}
use Rattle.relay_model.specs.Run.{IsRefused, WantsMemory, IsDone, Does}
use Rattle.relay_model.specs.Terms.{Terms}
use Rattle.relay_model.specs.World.{World, Output}
use Rattle.relay_facts.proofs.CountedSteps.{counted_still, turn_counted, expired_counted}
use Rattle.relay_facts.proofs.CountedSteps.{restart_counted}
use Rattle.relay_facts.proofs.CountedWrites.{write_counted}
use Rattle.relay_facts.proofs.Orderly.{IsOrderly}

-- an event that is done
done_counted : (w : Terms) (x : World) (event : Event) (output : Output) (x' : World)
    → Does w x event output x' → IsOrderly w x → IsCounted w x → IsCounted w x'
done_counted w x (Open s peer) output x' does orderly counted =
    subst (IsCounted w) (sym does.1)
    (counted_still w x _ (λ g. refl) refl refl (λ f. refl) (λ g. refl) counted)
done_counted w x (Bytes s piece) output x' does orderly counted =
    subst (IsCounted w) (sym does.3)
    (counted_still w x _ (λ g. refl) refl refl (λ f. refl) (λ g. refl) counted)
done_counted w x (Turn s now) output x' does orderly counted =
    turn_counted w x s now output x' does counted
done_counted w x (Write g now) output x' does orderly counted =
    write_counted w x g now x' does.1 orderly counted
done_counted w x (Break s) output x' does orderly counted =
    subst (IsCounted w) (sym does.3)
    (counted_still w x _ (λ g. refl) refl refl (λ f. refl) (λ g. refl) counted)
done_counted w x (Expire shard now) output x' does orderly counted =
    subst (IsCounted w) (sym does.1) (expired_counted w x shard now x.work.expirer counted)
done_counted w x Restart output x' does orderly counted =
    restart_counted w x output x' does counted

-- a step
pub step_counted : (w : Terms) (x x' : World) (event : Event) (output : Output) → IsOrderly w x
    → IsCounted w x → Step w x event output x' → IsCounted w x'
step_counted w x x' event output orderly counted (IsRefused fault first said e) =
    subst (IsCounted w) (sym e) counted
step_counted w x x' event output orderly counted (WantsMemory takes said e) =
    subst (IsCounted w) (sym e) counted
step_counted w x x' event output orderly counted (IsDone free does) =
    done_counted w x event output x' does orderly counted
