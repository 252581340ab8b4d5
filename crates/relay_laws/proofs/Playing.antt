-- Events, computed where memory is there and no device fails.
use Rattle.std.proofs.Common.{◌≡◌, ◌∙◌, ◌++◌, ℕ, Bool, true, false, List, [], ◌∷◌, Option, Some}
use Rattle.std.proofs.Common.{None, refl, sym, ap, subst, true≢false}
use Rattle.std.proofs.lemmas.Bool.{and_parts, not-true}
use Rattle.std.specs.Prelude.{not, ◌&&◌}
use Rattle.relay_model.specs.Run.{Event, Open, Bytes, Turn, Write, Break, Expire, Restart, Does}
use Rattle.relay_model.specs.Run.{Step, IsRefused, refusal, opened, expired}
use Rattle.relay_model.specs.Run as runs
use Rattle.relay_model.specs.State.{Session, Leaving, in_phase, with_unread}
use Rattle.relay_model.specs.Terms.{Terms}
use Rattle.relay_model.specs.World.{World, Output, Quiet, Sent, Refuses, Memory, Fault}
use Rattle.relay_model.specs.World.{Expirer, with_session}
use Rattle.relay_model.specs.World as world
use Rattle.relay_model.specs.Claims.{Passed}
use Rattle.relay_model.specs.Claims.{is_storing}
use Rattle.relay_model.specs.Run.{reads_front, restarted}
use Rattle.std.proofs.Common.{le_refl}
use Rattle.news_terms.specs.Places.{Buffer}
use Rattle.std.specs.Prelude.{slice_get, length}
use Rattle.news_terms.specs.Reply.{Greeting, reply_text}
use Rattle.relay_laws.specs.Calm.{CalmRun}
use Rattle.relay_laws.proofs.OneAnswer.{one_run}
use Rattle.relay_laws.proofs.OneWrite.{after_write}
use Rattle.relay_laws.specs.Answered.{AreAnswered, LeadTo}
use Rattle.relay_laws.proofs.Dues.{Hint, NoHint}
use Rattle.relay_laws.proofs.Premises.{Premise, Free, Needs, IsMet, With, parted}
use Rattle.relay_laws.proofs.Turning.{Played, turn_premise, played_turn, turns, turn_calm}
use Rattle.relay_laws.proofs.Writing.{write_premise, writes, write_calm}

-- nothing is said, and nothing changes
abbrev idle : World → Played
idle x = record { output = Quiet; world = x }

-- octets come to the session that is there
abbrev played_bytes : World → ℕ → List ℕ → Option Session → Played
played_bytes x s piece None = idle x
played_bytes x s piece (Some session) = record {
  output = Quiet;
  world = with_session x s (with_unread session (session.unread ++ piece));
}

-- a Turn of the session that is there
abbrev played_turn_of : Terms → World → (s now : ℕ) → Hint → Option Session → Played
played_turn_of w x s now hint None = idle x
played_turn_of w x s now hint (Some session) = played_turn w x s now hint session

-- the connection of the session that is there is gone
abbrev played_break : World → ℕ → Option Session → Played
played_break x s None = idle x
played_break x s (Some session) = record {
  output = world.Ended s [];
  world = with_session x s (in_phase session Leaving);
}

-- an event that isn't refused
abbrev played_event : Terms → World → Hint → Event → Played
played_event w x hint (Open s peer) =
    record { output = Sent s (reply_text Greeting); world = opened x s peer }
played_event w x hint (Bytes s piece) = played_bytes x s piece (x.state.session s)
played_event w x hint (Turn s now) = played_turn_of w x s now hint (x.state.session s)
played_event w x hint (Write g now) =
    record { output = Quiet; world = after_write w x g now (x.work.writer g) }
played_event w x hint (Break s) = played_break x s (x.state.session s)
played_event w x hint (Expire shard now) =
    record { output = Quiet; world = expired w x shard now x.work.expirer }
played_event w x hint Restart =
    record { output = Quiet; world = restarted x x.work.failures }

-- by whether it is refused
abbrev played_by : Terms → World → Hint → Event → Option Fault → Played
played_by w x hint event None = played_event w x hint event
played_by w x hint event (Some fault) = record { output = Refuses fault; world = x }

-- an event
abbrev played : Terms → World → Hint → Event → Played
played w x hint event = played_by w x hint event (refusal w x.state event)

-- what has to be known of a Turn of the session that is there
abbrev turn_of_premise : Terms → World → (now : ℕ) → Hint → Option Session → Premise
turn_of_premise w x now hint None = Needs ⊥
turn_of_premise w x now hint (Some session) = turn_premise w x now hint session

-- the session is there
abbrev there_premise : Option Session → Premise
there_premise None = Needs ⊥
there_premise (Some session) = Free

-- what has to be known of an event that isn't refused
abbrev event_premise : Terms → World → Hint → Event → Premise
event_premise w x hint (Open s peer) = Free
event_premise w x hint (Bytes s piece) = there_premise (x.state.session s)
event_premise w x hint (Turn s now) = turn_of_premise w x now hint (x.state.session s)
event_premise w x hint (Write g now) = write_premise w x (x.work.writer g)
event_premise w x hint (Break s) = there_premise (x.state.session s)
event_premise w x hint (Expire shard now) = Free
event_premise w x hint Restart =
    Needs ((id : List ℕ) → is_storing (x.state.claim id) ≡ false)

-- by whether it is refused: it isn't for want of memory
abbrev needs : Terms → World → Hint → Event → Option Fault → Premise
needs w x hint event None = event_premise w x hint event
needs w x hint event (Some fault) = Free

-- the first hint, if there is one, and the others
abbrev first_hint : List Hint → Hint
first_hint [] = NoHint
first_hint (hint ∷ hints) = hint

abbrev other_hints : List Hint → List Hint
other_hints [] = []
other_hints (hint ∷ hints) = hints

-- the outputs of events, by hints for the first of them
abbrev pub outputs_of : Terms → World → List Hint → List Event → List Output
outputs_of w x hints [] = []
outputs_of w x hints (event ∷ events) =
    let one = played w x (first_hint hints) event in
    one.output ∷ outputs_of w one.world (other_hints hints) events

-- the world after them
abbrev pub world_of : Terms → World → List Hint → List Event → World
world_of w x hints [] = x
world_of w x hints (event ∷ events) =
    world_of w (played w x (first_hint hints) event).world (other_hints hints) events

-- what has to be known of them, one thing after the other
abbrev pub Knows : Terms → World → List Hint → List Event → Type 0
Knows w x hints [] = Unit {0}
Knows w x hints (event ∷ events) =
    With (needs w x (first_hint hints) event (refusal w x.state event))
    (Knows w (played w x (first_hint hints) event).world (other_hints hints) events)

-- octets may come so
bytes_may : (w : Terms) (x : World) (s : ℕ) (piece : List ℕ) (session : Option Session)
    → x.state.session s ≡ session → IsMet (there_premise session)
    → Does w x (Bytes s piece) (played_bytes x s piece session).output
    (played_bytes x s piece session).world
bytes_may w x s piece None there knows = absurd knows
bytes_may w x s piece (Some session) there knows = (session, there, refl, refl)

-- a break may go so
break_may : (w : Terms) (x : World) (s : ℕ) (session : Option Session)
    → x.state.session s ≡ session → IsMet (there_premise session)
    → Does w x (Break s) (played_break x s session).output (played_break x s session).world
break_may w x s None there knows = absurd knows
break_may w x s (Some session) there knows = (session, there, refl, refl)

-- a Turn may go so
turn_may : (w : Terms) (x : World) (s now : ℕ) (hint : Hint) (session : Option Session)
    → x.state.session s ≡ session → IsMet (turn_of_premise w x now hint session)
    → Does w x (Turn s now) (played_turn_of w x s now hint session).output
    (played_turn_of w x s now hint session).world
turn_may w x s now hint None there knows = absurd knows
turn_may w x s now hint (Some session) there knows = turns w x s now hint session there knows

-- an event that isn't refused may go so
event_may : (w : Terms) (x : World) (hint : Hint) (event : Event) → IsMet
    (event_premise w x hint event)
    → Does w x event (played_event w x hint event).output (played_event w x hint event).world
event_may w x hint (Open s peer) knows = (refl, refl)
event_may w x hint (Bytes s piece) knows =
    bytes_may w x s piece (x.state.session s) refl knows
event_may w x hint (Turn s now) knows = turn_may w x s now hint (x.state.session s) refl knows
event_may w x hint (Write g now) knows = (refl, writes w x g now (x.work.writer g) refl knows)
event_may w x hint (Break s) knows = break_may w x s (x.state.session s) refl knows
event_may w x hint (Expire shard now) knows = (refl, refl)
event_may w x hint Restart knows =
    runs.IsDone x.work.failures knows (λ buffer. le_refl (x.work.failures buffer)) refl refl

-- a step
step_may : (w : Terms) (x : World) (hint : Hint) (event : Event) (fault : Option Fault)
    → refusal w x.state event ≡ fault → IsMet (needs w x hint event fault)
    → Step w x event (played_by w x hint event fault).output (played_by w x hint event fault).world
step_may w x hint event None free knows = runs.IsDone free (event_may w x hint event knows)
step_may w x hint event (Some fault) why knows = IsRefused fault why refl refl

-- memory was wanted
abbrev wants : Fault → Bool
wants Memory = true
wants world.NoSession = false
wants world.SessionTaken = false
wants world.NoGroup = false
wants world.NoPeer = false
wants world.BadMoment = false
wants world.NoShard = false
wants world.NotIdle = false
wants world.NotRestarted = false

-- the output says that memory was wanted
abbrev wants_memory : Output → Bool
wants_memory Quiet = false
wants_memory (Sent s octets) = false
wants_memory (world.Rejects s octets reason) = false
wants_memory (world.Ended s octets) = false
wants_memory (Refuses fault) = wants fault

-- none of the outputs does
abbrev pub want_none : List Output → Bool
want_none [] = true
want_none (output ∷ outputs) = not (wants_memory output) && want_none outputs

-- an output that doesn't say so is no such refusal
not_memory : (output : Output) → wants_memory output ≡ false → output ≡ Refuses Memory → ⊥
not_memory output none e = true≢false (sym (ap wants_memory e) ∙ none)

-- no device fails where octets come, in a Turn, or in a break
bytes_calm : (x : World) (s : ℕ) (piece : List ℕ) (session : Option Session)
    → (played_bytes x s piece session).world.work.failures ≡ x.work.failures
bytes_calm x s piece None = refl
bytes_calm x s piece (Some session) = refl

turn_of_calm : (w : Terms) (x : World) (s now : ℕ) (hint : Hint) (session : Option Session)
    → (played_turn_of w x s now hint session).world.work.failures ≡ x.work.failures
turn_of_calm w x s now hint None = refl
turn_of_calm w x s now hint (Some session) = turn_calm w x s now hint session

break_calm : (x : World) (s : ℕ) (session : Option Session)
    → (played_break x s session).world.work.failures ≡ x.work.failures
break_calm x s None = refl
break_calm x s (Some session) = refl

-- nor in an Expire
front_calm : (w : Terms) (x : World) (shard now : ℕ) (fronts : List Passed)
    (buffer : Option Buffer)
    → (reads_front w x shard now fronts buffer).work.failures ≡ x.work.failures
front_calm w x shard now fronts (Some buffer) = refl
front_calm w x shard now fronts None = refl

expire_calm : (w : Terms) (x : World) (shard now : ℕ) (expirer : Expirer)
    → (expired w x shard now expirer).work.failures ≡ x.work.failures
expire_calm w x shard now (world.Reading fronts) =
    front_calm w x shard now fronts (slice_get w.buffers (length fronts))
expire_calm w x shard now (world.Forgetting fronts left) = refl

-- nor in any event
event_calm : (w : Terms) (x : World) (hint : Hint) (event : Event) → IsMet
    (event_premise w x hint event)
    → (played_event w x hint event).world.work.failures ≡ x.work.failures
event_calm w x hint (Open s peer) knows = refl
event_calm w x hint (Bytes s piece) knows = bytes_calm x s piece (x.state.session s)
event_calm w x hint (Turn s now) knows = turn_of_calm w x s now hint (x.state.session s)
event_calm w x hint (Write g now) knows = write_calm w x g now (x.work.writer g)
event_calm w x hint (Break s) knows = break_calm x s (x.state.session s)
event_calm w x hint (Expire shard now) knows = expire_calm w x shard now x.work.expirer
event_calm w x hint Restart knows = refl

-- refused or not
by_calm : (w : Terms) (x : World) (hint : Hint) (event : Event) (fault : Option Fault)
    → IsMet (needs w x hint event fault)
    → (played_by w x hint event fault).world.work.failures ≡ x.work.failures
by_calm w x hint event None knows = event_calm w x hint event knows
by_calm w x hint event (Some fault) knows = refl

-- events may go so
run_may : (w : Terms) (x : World) (hints : List Hint) (events : List Event)
    → Knows w x hints events → want_none (outputs_of w x hints events) ≡ true
    → CalmRun w x events (outputs_of w x hints events) (world_of w x hints events)
run_may w x hints [] knows none = refl
run_may w x hints (event ∷ events) knows none =
    let hint = first_hint hints in
    let one = played w x hint event in
    let later = outputs_of w one.world (other_hints hints) events in
    let has = parted (needs w x hint event (refusal w x.state event))
    (Knows w one.world (other_hints hints) events) knows in
    let parts = and_parts (not (wants_memory one.output)) (want_none later) none in (
      one.world,
      step_may w x hint event (refusal w x.state event) refl has.0,
      record {
        memory = not_memory one.output (not-true _ parts.0);
        devices = by_calm w x hint event (refusal w x.state event) has.0;
      },
      run_may w one.world (other_hints hints) events has.1 parts.1,
    )

-- the events are answered as it is computed
pub are_answered : (w : Terms) (x : World) (hints : List Hint) (events : List Event)
    (outputs : List Output) → Knows w x hints events
    → outputs_of w x hints events ≡ outputs → want_none outputs ≡ true
    → AreAnswered w x events outputs
are_answered w x hints events outputs knows same none =
    let may : CalmRun w x events outputs (world_of w x hints events) =
    subst (λ (said : List Output). CalmRun w x events said (world_of w x hints events)) same
    (run_may w x hints events knows (ap want_none same ∙ none)) in
    record {
      after = world_of w x hints events;
      may = may;
      only = λ others y run.
          (one_run w x events others outputs y (world_of w x hints events) run may).0;
    }

-- the events lead to a world that is such
pub lead_to : (w : Terms) (x : World) (hints : List Hint) (events : List Event)
    (such : World → Type 0) → Knows w x hints events
    → want_none (outputs_of w x hints events) ≡ true → such (world_of w x hints events)
    → LeadTo w x events such
lead_to w x hints events such knows none is =
    let said = outputs_of w x hints events in
    let after = world_of w x hints events in
    let may : CalmRun w x events said after = run_may w x hints events knows none in
    record {
      outputs = said;
      after = after;
      may = may;
      only = λ others y run. subst such (one_run w x events said others after y may run).1 is;
    }

-- one event is answered so
pub answered_so : (w : Terms) (x : World) (event : Event) (output : Output) (y : World)
    → Step w x event output y → wants_memory output ≡ false
    → y.work.failures ≡ x.work.failures → AreAnswered w x (event ∷ []) (output ∷ [])
answered_so w x event output y step none calm =
    let may : CalmRun w x (event ∷ []) (output ∷ []) y =
    (y, step, record { memory = not_memory output none; devices = calm }, refl) in
    record {
      after = y;
      may = may;
      only = λ others z run. (one_run w x (event ∷ []) others (output ∷ []) z y run may).0;
    }
