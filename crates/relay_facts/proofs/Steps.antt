-- Each step from a world in order leads to one.
use Rattle.std.proofs.Common.{◌≡◌, ◌∙◌, ◌-◌, ◌++◌, ℕ, nat_lt, nat_le, Bool, true, false, List, []}
use Rattle.std.proofs.Common.{◌∷◌}
use Rattle.std.proofs.Common.{length, Option, None, Some, refl, sym, ap, subst, if◌then◌else◌}
use Rattle.std.proofs.lemmas.Bool.{ltb-true}
use Rattle.std.proofs.lemmas.Option.{none-some}
use Rattle.std.specs.Prelude.{slice_get}
use Rattle.news_terms.specs.Places.{Buffer}
use Rattle.relay_model.specs.Claims.{Passed}
use Rattle.relay_facts.proofs.Orderly.{IsOrderly}
use Rattle.relay_model.specs.Run.{Event, Open, Bytes, Turn, Write, Break, Expire, Restart, Step}
use Rattle.relay_model.specs.Run.{IsRefused, WantsMemory, IsDone, Does, Restarts, IsBusy, HasNoRoom}
use Rattle.relay_model.specs.Run.{HasNot, refusal, is_taken, expired, reads_front, forgotten}
use Rattle.relay_model.specs.Run.{expirer_at, passed_of, first_of_two, is_there}
use Rattle.relay_model.specs.Run.{is_reading, is_running}
use Rattle.relay_model.specs.Run as run
use Rattle.relay_model.specs.State.{Session, Phase, Ready, AwaitsBlock, Holds, Waits, Fetches}
use Rattle.relay_model.specs.State.{Leaving}
use Rattle.relay_model.specs.State.{Ended}
use Rattle.relay_model.specs.Terms.{Terms, last_moment}
use Rattle.relay_model.specs.World.{World, Output, Expirer, Reading, Forgetting, NoPeer}
use Rattle.relay_model.specs.World.{SessionTaken, NoSession, BadMoment, Fault, with_failures}
use Rattle.relay_facts.specs.Sound.{IsSound}
use Rattle.relay_facts.proofs.ClaimSteps.{all_alike, forgetting_alike}
use Rattle.relay_facts.proofs.Places.{carries}
use Rattle.relay_facts.proofs.Restarted.{stopped_orderly, store_itself}
use Rattle.relay_facts.proofs.Sessions.{opened_orderly, fed_orderly, broken_orderly}
use Rattle.relay_facts.proofs.Turning.{turn_orderly}
use Rattle.relay_facts.proofs.Unmoved.{StoresAlike, alike, unmoved_placed}
use Rattle.relay_facts.proofs.WriterOrderly.{write_orderly}

-- devices may have failed
pub failing_orderly : (w : Terms) (x : World) (failures : ℕ → ℕ) → IsOrderly w x
    → IsOrderly w (with_failures x failures)
failing_orderly w x failures orderly = record {
  numbered = orderly.numbered;
  placed = unmoved_placed w x (with_failures x failures) (record {
    claims = alike x.state x.state (λ id. refl);
    begun = λ g. refl;
    hand = λ s. refl;
    carries = carries w x orderly.placed;
    queue = λ g. refl;
    job = λ g. refl;
    writer = λ g at. at;
  }) orderly.placed;
  sized = orderly.sized;
}

-- the expirer goes on
expirer_orderly : (w : Terms) (x : World) (expirer : Expirer) → IsOrderly w x
    → IsOrderly w (expirer_at x expirer)
expirer_orderly w x expirer orderly = record {
  numbered = orderly.numbered;
  placed = unmoved_placed w x (expirer_at x expirer) (record {
    claims = alike x.state x.state (λ id. refl);
    begun = λ g. refl;
    hand = λ s. refl;
    carries = carries w x orderly.placed;
    queue = λ g. refl;
    job = λ g. refl;
    writer = λ g at. at;
  }) orderly.placed;
  sized = orderly.sized;
}

-- ids are forgotten
forgotten_orderly : (w : Terms) (x : World) (shard now : ℕ) (fronts : List Passed) (left : ℕ)
    → IsOrderly w x
    → IsOrderly w (forgotten w x shard now fronts left)
forgotten_orderly w x shard now fronts left orderly =
    let y = forgotten w x shard now fronts left in
    let same : StoresAlike x.state y.state =
    all_alike x.state y.state (forgetting_alike x.state.claim shard now w.remember fronts) in
    record {
      numbered = record { unopened = orderly.numbered.unopened; peer = orderly.numbered.peer };
      placed = unmoved_placed w x y (record {
        claims = same;
        begun = λ g. refl;
        hand = λ s. refl;
        carries = carries w x orderly.placed;
        queue = λ g. refl;
        job = λ g. refl;
        writer = λ g at. at;
      }) orderly.placed;
      sized = record {
        begun = orderly.sized.begun;
        laid = orderly.sized.laid;
        storing = λ id s article stage e. orderly.sized.storing id s article stage
            (same.earlier id s article stage e);
        held_one = orderly.sized.held_one;
        kept = orderly.sized.kept;
      };
    }

-- an Expire that reads
front_orderly : (w : Terms) (x : World) (shard now : ℕ) (fronts : List Passed)
    (next : Option Buffer) → IsOrderly w x
    → IsOrderly w (reads_front w x shard now fronts next)
front_orderly w x shard now fronts None orderly = forgotten_orderly w x shard now fronts 15 orderly
front_orderly w x shard now fronts (Some buffer) orderly =
    expirer_orderly w x (Reading (fronts ++ passed_of w x.state buffer ∷ [])) orderly

-- Expire
pub expired_orderly : (w : Terms) (x : World) (shard now : ℕ) (expirer : Expirer) → IsOrderly w x
    → IsOrderly w (expired w x shard now expirer)
expired_orderly w x shard now (Reading fronts) orderly =
    front_orderly w x shard now fronts (slice_get w.buffers (length fronts)) orderly
expired_orderly w x shard now (Forgetting fronts left) orderly =
    forgotten_orderly w x shard now fronts (left - 1) orderly

-- Restart
restart_orderly : (w : Terms) (x : World) (output : Output) (x' : World) → Restarts w x output x'
    → IsOrderly w x → IsOrderly w x'
restart_orderly w x output x' (IsBusy id busy said e) orderly = subst (IsOrderly w) (sym e) orderly
restart_orderly w x output x' (HasNoRoom failures rises said e) orderly =
    subst (IsOrderly w) (sym e) (failing_orderly w x failures orderly)
restart_orderly w x output x' (HasNot i buffer failures there idle failed said e) orderly =
    subst (IsOrderly w) (sym e) (failing_orderly w x failures orderly)
restart_orderly w x output x' (run.IsDone failures idle rises said e) orderly =
    subst (IsOrderly w) (sym e)
    (stopped_orderly w w (store_itself w) x failures x.state.newest (λ s free. free) idle orderly)

-- where neither of two tests finds a fault both are passed
pub first_passes : (one : Bool) (fault : Fault) (other : Bool) (next : Fault)
    → first_of_two one fault other next ≡ None → (one ≡ true) × (other ≡ true)
first_passes true fault true next e = (refl, refl)
first_passes true fault false next e = absurd (none-some next (sym e))
first_passes false fault other next e = absurd (none-some fault (sym e))

-- a session that may open has a number that is free and a peer
pub may_open : (taken known : Bool)
    → (if taken then Some SessionTaken else (if known then None else Some NoPeer)) ≡ None
    → (taken ≡ false) × (known ≡ true)
may_open true known e = absurd (none-some SessionTaken (sym e))
may_open false true e = (refl, refl)
may_open false false e = absurd (none-some NoPeer (sym e))

-- a session that may read runs
reads_runs : (o : Option Session) (session : Session) → o ≡ Some session
    → (if is_there is_reading o then None else Some NoSession) ≡ None
    → is_running session.phase ≡ true
reads_runs o session there free =
    by_phase session.phase
    (subst (λ (one : Option Session). (if is_there is_reading one then None else Some NoSession)
    ≡ None) there free)
  where
    by_phase : (phase : Phase) → (if is_reading phase then None else Some NoSession) ≡ None
        → is_running phase ≡ true
    by_phase Ready e = refl
    by_phase (AwaitsBlock transfer id) e = refl
    by_phase (Holds id article) e = refl
    by_phase (Waits transfer id) e = refl
    by_phase (Fetches asked token had) e = refl
    by_phase Leaving e = refl
    by_phase Ended e = absurd (none-some NoSession (sym e))

-- a session that may take a Turn runs
turns_runs : (o : Option Session) (session : Session) (now : ℕ) → o ≡ Some session
    → first_of_two (is_there is_running o) NoSession (nat_le now last_moment) BadMoment ≡ None
    → is_running session.phase ≡ true
turns_runs o session now there free =
    ap (is_there is_running) (sym there)
    ∙ (first_passes (is_there is_running o) NoSession (nat_le now last_moment) BadMoment free).0

-- an event that is done
done_orderly : (w : Terms) → IsSound w → (x : World) (event : Event) (output : Output) (x' : World)
    → refusal w x.state event ≡ None → Does w x event output x' → IsOrderly w x → IsOrderly w x'
done_orderly w sound x (Open s peer) output x' free does orderly =
    let may = may_open (is_taken x.state.newest s) (nat_lt peer (length w.peers)) free in
    subst (IsOrderly w) (sym does.1)
    (opened_orderly w x s peer may.0 (ltb-true peer (length w.peers) may.1) orderly)
done_orderly w sound x (Bytes s piece) output x' free does orderly =
    subst (IsOrderly w) (sym does.3)
    (fed_orderly w x s does.0 piece does.1
    (reads_runs (x.state.session s) does.0 does.1 free) orderly)
done_orderly w sound x (Turn s now) output x' free does orderly =
    turn_orderly w sound x s now output x' does
    (turns_runs (x.state.session s) does.session now does.there free) orderly
done_orderly w sound x (Write g now) output x' free does orderly =
    write_orderly w sound x g now x' does.1 orderly
done_orderly w sound x (Break s) output x' free does orderly =
    subst (IsOrderly w) (sym does.3)
    (broken_orderly w x s does.0 does.1 (reads_runs (x.state.session s) does.0 does.1 free)
    orderly)
done_orderly w sound x (Expire shard now) output x' free does orderly =
    subst (IsOrderly w) (sym does.1) (expired_orderly w x shard now x.work.expirer orderly)
done_orderly w sound x Restart output x' free does orderly =
    restart_orderly w x output x' does orderly

-- a step
pub step_orderly : (w : Terms) (x x' : World) (event : Event) (output : Output) → IsSound w
    → IsOrderly w x
    → Step w x event output x' → IsOrderly w x'
step_orderly w x x' event output sound orderly (IsRefused fault first said e) =
    subst (IsOrderly w) (sym e) orderly
step_orderly w x x' event output sound orderly (WantsMemory takes said e) =
    subst (IsOrderly w) (sym e) orderly
step_orderly w x x' event output sound orderly (IsDone free does) =
    done_orderly w sound x event output x' free does orderly
