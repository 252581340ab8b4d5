-- Each step keeps that sessions wait for one thing.
use Rattle.std.proofs.Common.{◌≡◌, ◌-◌, ◌++◌, ℕ, nat_lt, false, List, [], ◌∷◌, length, Option}
use Rattle.std.proofs.Common.{None, Some, refl, sym, ap, subst}
use Rattle.std.proofs.lemmas.Option.{none-some}
use Rattle.std.specs.Prelude.{slice_get}
use Rattle.news_terms.specs.Places.{Buffer}
use Rattle.relay_model.specs.Awaited.{told_by, Awaits, IsAwaited}
use Rattle.relay_model.specs.Claims.{Accepted, Passed, Stage, Storing, Unknown}
use Rattle.relay_facts.proofs.Orderly.{IsOrderly}
use Rattle.relay_model.specs.Run.{Event, Open, Bytes, Turn, Write, Break, Expire, Restart, Step}
use Rattle.relay_model.specs.Run.{IsRefused, WantsMemory, IsDone, Does, Restarts, IsBusy, HasNoRoom}
use Rattle.relay_model.specs.Run.{HasNot, refusal, is_taken, opened, new_session, expired}
use Rattle.relay_model.specs.Run.{reads_front, forgotten, expirer_at, passed_of}
use Rattle.relay_model.specs.Run as run
use Rattle.relay_model.specs.State.{Session, Leaving, in_phase, with_unread}
use Rattle.relay_model.specs.Terms.{Terms}
use Rattle.relay_model.specs.World.{World, Output, Expirer, Reading, Forgetting, with_failures}
use Rattle.relay_model.specs.World.{with_session, empty_world}
use Rattle.relay_facts.proofs.ClaimSteps.{all_alike, forgetting_alike}
use Rattle.relay_facts.proofs.Errands.{same_errand, errand_of, awaited_session, awaited_same}
use Rattle.relay_facts.proofs.Restarted.{stopped_awaited}
use Rattle.relay_facts.proofs.Steps.{may_open}
use Rattle.relay_facts.proofs.TurnErrands.{turn_awaited}
use Rattle.relay_facts.proofs.Unmoved.{alike}
use Rattle.relay_facts.proofs.WriterErrands.{write_awaited}

-- nothing is on its way before anything came
pub empty_awaited : (failures : ℕ → ℕ) → IsAwaited (empty_world failures)
empty_awaited failures = record {
  there = λ s session e. absurd (none-some session e);
  absent = λ s e. record {
    stores = λ id stores. absurd (unknown s stores.article stores.stage stores.claimed);
    told = λ g told. none-some s told;
    slot = refl;
  };
}
  where
    unknown : (s : ℕ) (article : Accepted) (stage : Stage) → Unknown ≡ Storing s article stage → ⊥
    unknown s article stage e = absurd (cc)

-- one session goes on to a phase that fits
session_goes : (x : World) (s : ℕ) (next : Session) → Awaits x s next.phase → IsAwaited x
    → IsAwaited (with_session x s next)
session_goes x s next goes a =
    awaited_session x (with_session x s next) s next
    (λ t. same_errand x (with_session x s next) t
    (alike x.state (with_session x s next).state (λ id. refl)) (λ g. refl) refl)
    (λ t. refl) goes a

-- Open
opened_awaited : (w : Terms) (x : World) (s peer : ℕ) → is_taken x.state.newest s ≡ false
    → IsOrderly w x → IsAwaited x
    → IsAwaited (opened x s peer)
opened_awaited w x s peer free orderly a =
    awaited_session x (opened x s peer) s (new_session peer)
    (λ t. same_errand x (opened x s peer) t (alike x.state (opened x s peer).state (λ id. refl))
    (λ g. refl) refl)
    (λ t. refl) (a.absent s (orderly.numbered.unopened s free)) a

-- nothing on its way changes, nor any session
still : (x y : World) → ((t : ℕ) → y.state.session t ≡ x.state.session t)
    → ((id : List ℕ) → y.state.claim id ≡ x.state.claim id)
    → ((g : ℕ) → y.work.writer g ≡ x.work.writer g) → ((t : ℕ) → y.work.slot t ≡ x.work.slot t)
    → IsAwaited x → IsAwaited y
still x y session claim writer slot a =
    awaited_same x y (λ t. same_errand x y t (alike x.state y.state claim)
    (λ g. ap told_by (writer g)) (slot t)) session a

-- an Expire that forgets
forgotten_awaited : (w : Terms) (x : World) (shard now : ℕ) (fronts : List Passed) (left : ℕ)
    → IsAwaited x
    → IsAwaited (forgotten w x shard now fronts left)
forgotten_awaited w x shard now fronts left a =
    let y = forgotten w x shard now fronts left in
    awaited_same x y
    (λ t. same_errand x y t (all_alike x.state y.state
    (forgetting_alike x.state.claim shard now w.remember fronts)) (λ g. refl) refl)
    (λ t. refl) a

-- an Expire that reads
front_awaited : (w : Terms) (x : World) (shard now : ℕ) (fronts : List Passed)
    (next : Option Buffer) → IsAwaited x
    → IsAwaited (reads_front w x shard now fronts next)
front_awaited w x shard now fronts None a = forgotten_awaited w x shard now fronts 15 a
front_awaited w x shard now fronts (Some buffer) a =
    still x (expirer_at x (Reading (fronts ++ passed_of w x.state buffer ∷ []))) (λ t. refl)
    (λ id. refl) (λ g. refl) (λ t. refl) a

-- Expire
expired_awaited : (w : Terms) (x : World) (shard now : ℕ) (expirer : Expirer) → IsAwaited x
    → IsAwaited (expired w x shard now expirer)
expired_awaited w x shard now (Reading fronts) a =
    front_awaited w x shard now fronts (slice_get w.buffers (length fronts)) a
expired_awaited w x shard now (Forgetting fronts left) a =
    forgotten_awaited w x shard now fronts (left - 1) a

-- Restart
restart_awaited : (w : Terms) (x : World) (output : Output) (x' : World) → Restarts w x output x'
    → IsAwaited x → IsAwaited x'
restart_awaited w x output x' (IsBusy id busy said e) a = subst IsAwaited (sym e) a
restart_awaited w x output x' (HasNoRoom failures rises said e) a =
    subst IsAwaited (sym e) (still x (with_failures x failures) (λ t. refl) (λ id. refl) (λ g. refl)
    (λ t. refl) a)
restart_awaited w x output x' (HasNot i buffer failures there idle failed said e) a =
    subst IsAwaited (sym e) (still x (with_failures x failures) (λ t. refl) (λ id. refl) (λ g. refl)
    (λ t. refl) a)
restart_awaited w x output x' (run.IsDone failures idle rises said e) a =
    subst IsAwaited (sym e) (stopped_awaited x failures x.state.newest idle)

-- an event that isn't refused
done_awaited : (w : Terms) (x : World) (event : Event) (output : Output) (x' : World)
    → refusal w x.state event ≡ None → Does w x event output x' → IsOrderly w x → IsAwaited x
    → IsAwaited x'
done_awaited w x (Open s peer) output x' free does orderly a =
    let may = may_open (is_taken x.state.newest s) (nat_lt peer (length w.peers)) free in
    subst IsAwaited (sym does.1) (opened_awaited w x s peer may.0 orderly a)
done_awaited w x (Bytes s piece) output x' free does orderly a =
    subst IsAwaited (sym does.3)
    (session_goes x s (with_unread does.0 (does.0.unread ++ piece)) (a.there s does.0 does.1) a)
done_awaited w x (Turn s now) output x' free does orderly a =
    turn_awaited w x s now output x' does a
done_awaited w x (Write g now) output x' free does orderly a =
    write_awaited w x g now x' does.1 orderly a
done_awaited w x (Break s) output x' free does orderly a =
    subst IsAwaited (sym does.3)
    (session_goes x s (in_phase does.0 Leaving)
    (errand_of x s does.0.phase (a.there s does.0 does.1)) a)
done_awaited w x (Expire shard now) output x' free does orderly a =
    subst IsAwaited (sym does.1) (expired_awaited w x shard now x.work.expirer a)
done_awaited w x Restart output x' free does orderly a = restart_awaited w x output x' does a

-- a step
pub step_awaited : (w : Terms) (x x' : World) (event : Event) (output : Output) → IsOrderly w x
    → IsAwaited x
    → Step w x event output x' → IsAwaited x'
step_awaited w x x' event output orderly a (IsRefused fault first said e) =
    subst IsAwaited (sym e) a
step_awaited w x x' event output orderly a (WantsMemory takes said e) = subst IsAwaited (sym e) a
step_awaited w x x' event output orderly a (IsDone free does) =
    done_awaited w x event output x' free does orderly a
