-- An event has one answer where memory is there and no device fails.
use Rattle.std.proofs.Common.{◌≡◌, ◌∙◌, ◌<◌, ℕ, ◌++◌, [], ◌∷◌, List}
use Rattle.std.proofs.Common.{refl, sym, ap, subst, arith, true≢false}
use Rattle.std.proofs.lemmas.Option.{none-some, same_Some}
use Rattle.relay_model.specs.Run.{Event, Open, Bytes, Turn, Write, Break, Expire, Restart}
use Rattle.relay_model.specs.Run.{Does, Step, IsRefused, WantsMemory, IsDone, Restarts, IsBusy}
use Rattle.relay_model.specs.Run.{HasNoRoom, HasNot, restarted}
use Rattle.relay_model.specs.Run as runs
use Rattle.relay_model.specs.State.{Session, in_phase, with_unread, Leaving}
use Rattle.relay_model.specs.Terms.{Terms}
use Rattle.relay_model.specs.World.{World, Output, Refuses, with_session}
use Rattle.relay_laws.specs.Calm.{IsCalm, CalmRun}
use Rattle.relay_laws.proofs.OneTurn.{IsSame, one_turn}
use Rattle.relay_laws.proofs.OneWrite.{write_leads}

-- no device failed where none failed
no_failure : (buffer : ℕ) (before after : ℕ → ℕ) → after ≡ before → before buffer < after buffer
    → ⊥
no_failure buffer before after same more =
    let less : before buffer < before buffer =
    subst (λ (f : ℕ → ℕ). before buffer < f buffer) same more in
    omega (arith, less)

-- the failures of a world that was made with these
made_with : (x y : World) (failures : ℕ → ℕ) → y.work.failures ≡ failures
    → y.work.failures ≡ x.work.failures → failures ≡ x.work.failures
made_with x y failures has calm = sym has ∙ calm

-- two Restarts
one_restart : (w : Terms) (x y z : World) (one other : Output) → Restarts w x one y
    → Restarts w x other z → IsCalm x one y → IsCalm x other z → IsSame one other y z
one_restart w x y z one other (HasNoRoom failures rises e after) u c d = absurd (c.memory e)
one_restart w x y z one other t (HasNoRoom failures rises e after) c d = absurd (d.memory e)
one_restart w x y z one other (HasNot i buffer failures at idle failed e after) u c d =
    absurd (no_failure buffer.number x.work.failures failures
    (made_with x y failures (ap (λ (v : World). v.work.failures) after) c.devices) failed.here)
one_restart w x y z one other t (HasNot i buffer failures at idle failed e after) c d =
    absurd (no_failure buffer.number x.work.failures failures
    (made_with x z failures (ap (λ (v : World). v.work.failures) after) d.devices) failed.here)
one_restart w x y z one other (IsBusy id busy e after) (IsBusy id' busy' e' after') c d =
    record { output = e ∙ sym e'; world = after ∙ sym after' }
one_restart w x y z one other (IsBusy id busy e after) (runs.IsDone f idle r e' after') c d =
    absurd (true≢false (sym busy ∙ idle id))
one_restart w x y z one other (runs.IsDone f idle r e after) (IsBusy id busy e' after') c d =
    absurd (true≢false (sym busy ∙ idle id))
one_restart w x y z one other (runs.IsDone f idle r e after)
    (runs.IsDone f' idle' r' e' after') c d =
    let first : f ≡ x.work.failures =
    made_with x y f (ap (λ (v : World). v.work.failures) after) c.devices in
    let second : f' ≡ x.work.failures =
    made_with x z f' (ap (λ (v : World). v.work.failures) after') d.devices in
    record {
      output = e ∙ sym e';
      world = after ∙ ap (restarted x) (first ∙ sym second) ∙ sym after';
    }

-- what an event does that isn't refused
one_does : (w : Terms) (x y z : World) (event : Event) (one other : Output)
    → Does w x event one y → Does w x event other z → IsCalm x one y → IsCalm x other z
    → IsSame one other y z
one_does w x y z (Open s peer) one other t u c d =
    record { output = t.0 ∙ sym u.0; world = t.1 ∙ sym u.1 }
one_does w x y z (Bytes s piece) one other t u c d =
    let same : t.0 ≡ u.0 = same_Some t.0 u.0 (sym t.1 ∙ u.1) in
    record {
      output = t.2 ∙ sym u.2;
      world = t.3 ∙ ap (λ (v : Session). with_session x s (with_unread v (v.unread ++ piece))) same
          ∙ sym u.3;
    }
one_does w x y z (Turn s now) one other t u c d =
    one_turn w x y z s now one other t u c.devices d.devices
one_does w x y z (Write g now) one other t u c d =
    record {
      output = t.0 ∙ sym u.0;
      world = write_leads w x g now y t.1 c.devices ∙ sym (write_leads w x g now z u.1 d.devices);
    }
one_does w x y z (Break s) one other t u c d =
    let same : t.0 ≡ u.0 = same_Some t.0 u.0 (sym t.1 ∙ u.1) in
    record {
      output = t.2 ∙ sym u.2;
      world = t.3 ∙ ap (λ (v : Session). with_session x s (in_phase v Leaving)) same ∙ sym u.3;
    }
one_does w x y z (Expire shard now) one other t u c d =
    record { output = t.0 ∙ sym u.0; world = t.1 ∙ sym u.1 }
one_does w x y z Restart one other t u c d = one_restart w x y z one other t u c d

-- two steps of one event
pub one_step : (w : Terms) (x y z : World) (event : Event) (one other : Output)
    → Step w x event one y → Step w x event other z → IsCalm x one y → IsCalm x other z
    → IsSame one other y z
one_step w x y z event one other (WantsMemory takes e after) u c d = absurd (c.memory e)
one_step w x y z event one other t (WantsMemory takes e after) c d = absurd (d.memory e)
one_step w x y z event one other (IsRefused fault why e after) (IsRefused fault' why' e' after')
    c d =
    record {
      output = e ∙ ap Refuses (same_Some fault fault' (sym why ∙ why')) ∙ sym e';
      world = after ∙ sym after';
    }
one_step w x y z event one other (IsRefused fault why e after) (IsDone free does) c d =
    absurd (none-some fault (sym free ∙ why))
one_step w x y z event one other (IsDone free does) (IsRefused fault why e after) c d =
    absurd (none-some fault (sym free ∙ why))
one_step w x y z event one other (IsDone free does) (IsDone free' does') c d =
    one_does w x y z event one other does does' c d

-- two runs of the same events
pub one_run : (w : Terms) (x : World) (events : List Event) (outputs others : List Output)
    (y z : World) → CalmRun w x events outputs y → CalmRun w x events others z
    → (outputs ≡ others) × (y ≡ z)
one_run w x [] [] [] y z t u = (refl, t ∙ sym u)
one_run w x (event ∷ events) (one ∷ outputs) (other ∷ others) y z t u =
    let first = one_step w x t.0 u.0 event one other t.1 u.1 t.2 u.2 in
    let rest = one_run w u.0 events outputs others y z
    (subst (λ (v : World). CalmRun w v events outputs y) first.world t.3) u.3 in
    (ap (λ o. o ∷ outputs) first.output ∙ ap (λ os. other ∷ os) rest.0, rest.1)
one_run w x [] (one ∷ outputs) others y z t u = absurd t
one_run w x [] [] (other ∷ others) y z t u = absurd u
one_run w x (event ∷ events) [] others y z t u = absurd t
one_run w x (event ∷ events) (one ∷ outputs) [] y z t u = absurd u
