-- Each text that is kept has the message-id that it was stored under, which is its own.
use Rattle.std.proofs.Common.{◌≡◌, ◌∙◌, ◌≤◌, ◌<◌, ◌++◌, ◌-◌, ℕ, nat_lt, nat_le, Bool, true, false}
use Rattle.std.proofs.Common.{List, []}
use Rattle.std.proofs.Common.{◌∷◌, length, Option, None, Some, All, refl, sym, ap, subst}
use Rattle.std.proofs.Common.{slice_get}
use Rattle.std.specs.Prelude.{option_map}
use Rattle.std.proofs.lemmas.List.Elements.{All-append, All-cons, All-nil}
use Rattle.std.proofs.lemmas.Option.{none-some, same_Some}
use Rattle.news_terms.specs.Places.{Buffer}
use Rattle.news_terms.specs.Token.{Token}
use Rattle.relay_model.specs.Asks.{Ask, Rests, GoesOn, Says, Leaves, Offers, Looks, Reads}
use Rattle.relay_model.specs.Asks.{TakesQueue, Refuses, Takes, Pushes, LooksInSlot, Releases, Ends}
use Rattle.relay_model.specs.Claims.{Accepted, Claim, Unknown, Offered, Storing, Stored, Refused}
use Rattle.relay_model.specs.Claims.{Stage, Waiting, Begun, Whole, Passed, after_offer, after_take}
use Rattle.relay_model.specs.Claims.{after_refuse, after_release, after_restart}
use Rattle.relay_model.specs.Claims as stages
use Rattle.relay_model.specs.Invariants.{IsWell}
use Rattle.relay_model.specs.Run.{Event, Open, Bytes, Turn, Write, Break, Expire, Restart, Step}
use Rattle.relay_model.specs.Run.{Does, IsRefused, WantsMemory, IsDone, Turns, Restarts, IsBusy}
use Rattle.relay_model.specs.Run.{HasNoRoom, HasNot, refusal, expired, reads_front, forgotten}
use Rattle.relay_model.specs.Run.{new_session, is_running, is_there, opened, restarted}
use Rattle.relay_model.specs.Run.{first_of_two}
use Rattle.relay_model.specs.Run as run
use Rattle.relay_model.specs.Shares.{Answer, Shares, HasNotRead, Pushing, known_at}
use Rattle.relay_model.specs.Shares as shares
use Rattle.relay_model.specs.State.{State, Session, Kept, Job}
use Rattle.relay_model.specs.State.{Ended, Leaving, in_phase, put_at, put_id, with_unread}
use Rattle.relay_model.specs.Terms.{Terms, last_moment, queue_limit}
use Rattle.relay_model.specs.World.{World, Output, Expirer, Reading, Forgetting, NoSession}
use Rattle.relay_model.specs.World.{BadMoment}
use Rattle.relay_model.specs.World.{with_session}
use Rattle.relay_model.specs.Writers.{Writes, NoJob, Pops, HasBegun, FindsWorn, WritesBlock}
use Rattle.relay_model.specs.Writers.{FailsToWrite, HasStored, Settles, Closes, Forgets, TellsKept}
use Rattle.relay_model.specs.Writers.{TellsFailed, staged}
use Rattle.relay_facts.specs.Sound.{IsSound}
use Rattle.relay_facts.proofs.ClaimSteps.{IsAlike, offer_alike, refuse_alike, release_alike}
use Rattle.relay_facts.proofs.ClaimSteps.{forgetting_alike}
use Rattle.relay_facts.proofs.Moves.{is_timed, turn_same}
use Rattle.relay_facts.proofs.Steps.{first_passes}
use Rattle.relay_facts.proofs.Puts.{put_at_both, put_id_both, same_id}
use Rattle.relay_laws.proofs.Sessions.{shared_sessions}
use Rattle.relay_crashes.proofs.OwnDues.{IsOf, AskOwn, PhaseOwn, due_own}
use Rattle.relay_crashes.proofs.OwnHeard.{hears_own}

-- what is being stored under an id is of it
abbrev pub ClaimOwn : List ℕ → Claim → Type 0
ClaimOwn id claim =
    (s : ℕ) (article : Accepted) (stage : Stage) → claim ≡ Storing s article stage
    → IsOf id article.text

-- what is stored or held under an id is of it, and of each text that is kept something holds
pub record AllOwn (P : Kept → Type 0) (σ : State) : Type 0 where
  pub claims : (id : List ℕ) → ClaimOwn id (σ.claim id)
  pub sessions : (s : ℕ) (session : Session) → σ.session s ≡ Some session → PhaseOwn session.phase
  pub kept : All P σ.kept

-- a claim that is stored only where it was keeps that
alike_own : (id : List ℕ) (before after : Claim) → IsAlike before after → ClaimOwn id before
    → ClaimOwn id after
alike_own id before after alike own s article stage e =
    own s article stage (alike.earlier s article stage e)

-- so does a claim that is stored at another stage
put_own : (claim : List ℕ → Claim) (k : List ℕ) (new : Claim) → ClaimOwn k new
    → ((id : List ℕ) → ClaimOwn id (claim id)) → (id : List ℕ)
    → ClaimOwn id (put_id claim k new id)
put_own claim k new own before id =
    put_id_both (ClaimOwn id) claim k new id
    (λ same. subst (λ one. ClaimOwn one new) (sym (same_id id k same)) own) (λ other. before id)

-- an article that is taken
take_own : (id : List ℕ) (s : ℕ) (article : Accepted) → IsOf id article.text → (claim : Claim)
    → ClaimOwn id claim → ClaimOwn id (after_take s article claim)
take_own id s article is Unknown own n other stage e =
    let same : article ≡ other = cc (e) in subst (λ (one : Accepted). IsOf id one.text) same is
take_own id s article is (Offered peer since) own n other stage e =
    let same : article ≡ other = cc (e) in subst (λ (one : Accepted). IsOf id one.text) same is
take_own id s article is (Storing peer had at) own n other stage e = own n other stage e
take_own id s article is (Stored token moment) own n other stage e = absurd (cc)
take_own id s article is (Refused moment) own n other stage e = absurd (cc)

-- a claim after a Restart
restart_own : (id : List ℕ) (claim : Claim) → ClaimOwn id claim
    → ClaimOwn id (after_restart claim)
restart_own id Unknown own n other stage e = absurd (cc)
restart_own id (Offered peer since) own n other stage e = absurd (cc)
restart_own id (Storing peer had at) own n other stage e = own n other stage e
restart_own id (Stored token moment) own n other stage e = absurd (cc)
restart_own id (Refused moment) own n other stage e = absurd (cc)

-- what is being stored in a world is of its id
abbrev Owns : World → Type 0
Owns x = (id : List ℕ) → ClaimOwn id (x.state.claim id)

-- no claim changes
claims_own : (x y : World) → y.state.claim ≡ x.state.claim → Owns x → Owns y
claims_own x y same own id = subst (λ claim. ClaimOwn id (claim id)) (sym same) (own id)

-- the claims of a world
abbrev claims_in : World → List ℕ → Claim
claims_in x = x.state.claim

-- a read, or a push, changes no claim
reading_claims : (w : Terms) (x : World) (token : Token) (answer : Answer) (y : World)
    → shares.Reading w x token answer y → y.state.claim ≡ x.state.claim
reading_claims w x token answer y (shares.IsFound failures rises says e) =
    ap claims_in e
reading_claims w x token answer y (HasNotRead failures none failed says e) =
    ap claims_in e

pushing_claims : (x : World) (job : Job) (room : Bool) (answer : Answer) (y : World)
    → Pushing x job room answer y → y.state.claim ≡ x.state.claim
pushing_claims x job true answer y pushes = ap claims_in pushes.1
pushing_claims x job false answer y pushes = ap claims_in pushes.1

-- one claim goes on alike
alike_owns : (x y : World) (k : List ℕ) (new : Claim)
    → y.state.claim ≡ put_id x.state.claim k new → IsAlike (x.state.claim k) new → Owns x → Owns y
alike_owns x y k new e alike own id =
    subst (λ claim. ClaimOwn id (claim id)) (sym e)
    (put_own x.state.claim k new (alike_own k (x.state.claim k) new alike (own k)) own id)

-- what is shared stores nothing but what is of its id
shared_own : (w : Terms) (x : World) (s now : ℕ) (ask : Ask) (answer : Answer) (y : World)
    → AskOwn ask → Owns x → Shares w x s now ask answer y → Owns y
shared_own w x s now Rests answer y asks own is = claims_own x y (ap claims_in is.1) own
shared_own w x s now GoesOn answer y asks own is = claims_own x y (ap claims_in is.1) own
shared_own w x s now (Says reply) answer y asks own is = claims_own x y (ap claims_in is.1) own
shared_own w x s now (Leaves reply) answer y asks own is = claims_own x y (ap claims_in is.1) own
shared_own w x s now (Offers transfer id) answer y asks own is =
    alike_owns x y id (after_offer s now (known_at w x now id)) (ap claims_in is.1)
    (offer_alike w.offers s now (x.state.claim id)) own
shared_own w x s now (Looks part id) answer y asks own is = claims_own x y (ap claims_in is.1) own
shared_own w x s now (Reads asked token had) answer y asks own is =
    claims_own x y (reading_claims w x token answer y is) own
shared_own w x s now (TakesQueue feed most) answer y asks own is =
    claims_own x y (ap claims_in is.1) own
shared_own w x s now (Refuses transfer id reason) answer y asks own is =
    alike_owns x y id (after_refuse s now (known_at w x now id)) (ap claims_in is.1)
    (refuse_alike w.offers s now (x.state.claim id)) own
shared_own w x s now (Takes transfer id article) answer y asks own is =
    subst (λ (z : World). Owns z) (sym is.1)
    (put_own x.state.claim id (after_take s article (x.state.claim id))
    (take_own id s article asks (x.state.claim id) (own id)) own)
shared_own w x s now (Pushes job) answer y asks own is =
    claims_own x y
    (pushing_claims x job (nat_lt (length (x.work.queue job.article.group)) queue_limit) answer y
    is)
    own
shared_own w x s now (LooksInSlot transfer id) answer y asks own is =
    claims_own x y (ap claims_in is.1) own
shared_own w x s now (Releases id) answer y asks own is =
    alike_owns x y id (after_release s (x.state.claim id)) (ap claims_in is.1)
    (release_alike s (x.state.claim id)) own
shared_own w x s now Ends answer y asks own is = claims_own x y (ap claims_in is.1) own

-- the state with another session, and with claims that own what they store
session_put : (P : Kept → Type 0) (x y : World) (s : ℕ) (next : Session)
    → ((t : ℕ) → y.state.session t ≡ put_at x.state.session s (Some next) t)
    → y.state.kept ≡ x.state.kept → Owns y → PhaseOwn next.phase → AllOwn P x.state
    → AllOwn P y.state
session_put P x y s next sessions kept own holds all = record {
  claims = own;
  sessions = λ t session there.
      put_at_both (λ (one : Option Session). one ≡ Some session → PhaseOwn session.phase)
      x.state.session s (Some next) t
      (λ e is. subst (λ (one : Session). PhaseOwn one.phase) (same_Some next session is) holds)
      (λ other is. all.sessions t session is) (sym (sessions t) ∙ there);
  kept = subst (All P) (sym kept) all.kept;
}

-- a Turn
turn_own : (w : Terms) → IsSound w → (P : Kept → Type 0) (x : World) (s now : ℕ)
    → now ≤ last_moment → (output : Output) (x' : World) → (turn : Turns w x s now output x')
    → turn.session.peer < length w.peers → AllOwn P x.state → AllOwn P x'.state
turn_own w sound P x s now timed output x' turn inside all =
    let due = due_own w sound turn.session
    (all.sessions s turn.session turn.there) inside now turn.due turn.is_due in
    session_put P x x' s turn.heard.session
    (λ t. ap (λ (one : World). one.state.session t) turn.after
    ∙ ap (λ sessions. put_at sessions s (Some turn.heard.session) t)
    (shared_sessions w x s now turn.due.ask turn.answer turn.between turn.shares))
    (turn_same w x s now timed output x' turn).kept
    (subst (λ (one : World). Owns one) (sym turn.after)
    (shared_own w x s now turn.due.ask turn.answer turn.between due.asks all.claims turn.shares))
    (hears_own s turn.due.after turn.due.ask turn.answer turn.heard due.asks due.goes_on
    turn.hears)
    all

-- a job's claim at another stage
stage_own : (σ : State) (job : Job) (before after : Stage)
    → σ.claim job.id ≡ staged job before → ((id : List ℕ) → ClaimOwn id (σ.claim id))
    → (id : List ℕ) → ClaimOwn id (put_id σ.claim job.id (staged job after) id)
stage_own σ job before after claimed own =
    put_own σ.claim job.id (staged job after)
    (λ s article stage e.
    let same : job.article ≡ article = cc (e) in
    subst (λ (one : Accepted). IsOf job.id one.text) same
    (own job.id job.session job.article before claimed))
    own

-- nothing is stored of an id
none_own : (σ : State) (k : List ℕ) (new : Claim)
    → ((s : ℕ) (article : Accepted) (stage : Stage) → new ≡ Storing s article stage → ⊥)
    → ((id : List ℕ) → ClaimOwn id (σ.claim id)) → (id : List ℕ)
    → ClaimOwn id (put_id σ.claim k new id)
none_own σ k new none own =
    put_own σ.claim k new (λ s article stage e. absurd (none s article stage e)) own

-- what is stored under an id that is its own is such a text
abbrev pub Joins : (Kept → Type 0) → Type 0
Joins P = (one : Kept) → IsOf one.id one.text → P one

-- the state of a world
abbrev state_in : World → State
state_in x = x.state

-- the same state
same_own : (P : Kept → Type 0) (σ τ : State) → τ ≡ σ → AllOwn P σ → AllOwn P τ
same_own P σ τ e all = subst (AllOwn P) (sym e) all

-- other claims
with_claims : (P : Kept → Type 0) (σ τ : State) → ((id : List ℕ) → ClaimOwn id (τ.claim id))
    → τ.session ≡ σ.session → τ.kept ≡ σ.kept → AllOwn P σ → AllOwn P τ
with_claims P σ τ own session kept all = record {
  claims = own;
  sessions = λ s one there. all.sessions s one (sym (ap (λ f. f s) session) ∙ there);
  kept = subst (All P) (sym kept) all.kept;
}

-- a Write
write_own : (w : Terms) (P : Kept → Type 0) → Joins P → (x : World) (g now : ℕ) (x' : World)
    → Writes w x g now x' → AllOwn P x.state → AllOwn P x'.state
write_own w P joins x g now x' (NoJob idle empty e) all =
    same_own P x.state x'.state (ap state_in e) all
write_own w P joins x g now x' (Pops job rest idle queue e) all =
    same_own P x.state x'.state (ap state_in e) all
write_own w P joins x g now x' (HasBegun job token τ has begins e) all =
    same_own P _ x'.state (ap state_in e ∙ begins.after)
    (with_claims P x.state _
    (stage_own x.state job Waiting (Begun token) begins.waiting all.claims) refl refl all)
write_own w P joins x g now x' (FindsWorn job has worn e) all =
    same_own P x.state x'.state (ap state_in e) all
write_own w P joins x g now x' (WritesBlock job token written failures has left rises e) all =
    same_own P x.state x'.state (ap state_in e) all
write_own w P joins x g now x' (FailsToWrite job token written failures τ has left failed fails e)
    all =
    same_own P _ x'.state (ap state_in e ∙ fails.after)
    (with_claims P x.state _
    (stage_own x.state job (Begun token) stages.Failed fails.begun all.claims) refl refl all)
write_own w P joins x g now x' (HasStored job token written τ has whole stores e) all =
    same_own P _ x'.state (ap state_in e ∙ stores.after)
    (record {
      claims = stage_own x.state job (Begun token) (Whole token) stores.begun all.claims;
      sessions = all.sessions;
      kept =
          All-append P x.state.kept (one ∷ []) all.kept
          (All-cons P one []
          (joins one (all.claims job.id job.session job.article (Begun token) stores.begun))
          (All-nil P));
    })
  where
    one : Kept
    one = record { token = token; id = job.id; text = job.article.text }
write_own w P joins x g now x' (Settles job token τ has accepts e) all =
    same_own P _ x'.state (ap state_in e ∙ accepts.after)
    (with_claims P x.state _
    (none_own x.state job.id (Stored token now) (λ s article stage is. cc (is)) all.claims) refl
    refl all)
write_own w P joins x g now x' (Closes job token has e) all =
    same_own P x.state x'.state (ap state_in e) all
write_own w P joins x g now x' (Forgets job τ has abandons e) all =
    same_own P _ x'.state (ap state_in e ∙ abandons.after)
    (with_claims P x.state _
    (none_own x.state job.id Unknown (λ s article stage is. cc (is)) all.claims) refl refl all)
write_own w P joins x g now x' (TellsKept s has e) all =
    same_own P x.state x'.state (ap state_in e) all
write_own w P joins x g now x' (TellsFailed s has e) all =
    same_own P x.state x'.state (ap state_in e) all

-- ids are forgotten
forgotten_own : (w : Terms) (P : Kept → Type 0) (x : World) (shard now : ℕ)
    (fronts : List Passed) (left : ℕ) → AllOwn P x.state
    → AllOwn P (forgotten w x shard now fronts left).state
forgotten_own w P x shard now fronts left all =
    with_claims P x.state _
    (λ id. alike_own id (x.state.claim id) _
    (forgetting_alike x.state.claim shard now w.remember fronts id) (all.claims id))
    refl refl all

-- an Expire, by what it reads
front_own : (w : Terms) (P : Kept → Type 0) (x : World) (shard now : ℕ) (fronts : List Passed)
    (next : Option Buffer) → AllOwn P x.state
    → AllOwn P (reads_front w x shard now fronts next).state
front_own w P x shard now fronts (Some buffer) all = all
front_own w P x shard now fronts None all = forgotten_own w P x shard now fronts 15 all

-- an Expire
expired_own : (w : Terms) (P : Kept → Type 0) (x : World) (shard now : ℕ) (expirer : Expirer)
    → AllOwn P x.state → AllOwn P (expired w x shard now expirer).state
expired_own w P x shard now (Reading fronts) all =
    front_own w P x shard now fronts (slice_get w.buffers (length fronts)) all
expired_own w P x shard now (Forgetting fronts left) all =
    forgotten_own w P x shard now fronts (left - 1) all

-- a session that has ended holds nothing
ended_own : (o : Option Session) (session : Session)
    → option_map (λ one. in_phase one Ended) o ≡ Some session → PhaseOwn session.phase
ended_own None session e = absurd (none-some session e)
ended_own (Some one) session e =
    subst (λ (each : Session). PhaseOwn each.phase) (same_Some (in_phase one Ended) session e) tt

-- a Restart
restarted_own : (w : Terms) (P : Kept → Type 0) (x : World) (output : Output) (x' : World)
    → Restarts w x output x' → AllOwn P x.state → AllOwn P x'.state
restarted_own w P x output x' (IsBusy id busy said e) all =
    same_own P x.state x'.state (ap state_in e) all
restarted_own w P x output x' (HasNoRoom failures rises said e) all =
    same_own P x.state x'.state (ap state_in e) all
restarted_own w P x output x' (HasNot i buffer failures there idle failed said e) all =
    same_own P x.state x'.state (ap state_in e) all
restarted_own w P x output x' (run.IsDone failures idle rises said e) all =
    same_own P (restarted x failures).state x'.state (ap state_in e)
    (record {
      claims = λ id. restart_own id (x.state.claim id) (all.claims id);
      sessions = λ s session there. ended_own (x.state.session s) session there;
      kept = all.kept;
    })

-- a session that may take a Turn runs
turns_runs : (o : Option Session) (session : Session) (now : ℕ) → o ≡ Some session
    → first_of_two (is_there is_running o) NoSession (nat_le now last_moment) BadMoment ≡ None
    → is_running session.phase ≡ true
turns_runs o session now there free =
    ap (is_there is_running) (sym there)
    ∙ (first_passes (is_there is_running o) NoSession (nat_le now last_moment) BadMoment free).0

-- an event that isn't refused
does_own : (w : Terms) → IsSound w → (P : Kept → Type 0) → Joins P → (x : World) (event : Event)
    (output : Output) (x' : World) → IsWell w x → refusal w x.state event ≡ None
    → Does w x event output x' → AllOwn P x.state → AllOwn P x'.state
does_own w sound P joins x (Open s peer) output x' well free does all =
    same_own P _ x'.state (ap state_in does.1)
    (session_put P x (opened x s peer) s (new_session peer) (λ t. refl) refl all.claims tt all)
does_own w sound P joins x (Bytes s piece) output x' well free does all =
    let next = with_unread does.0 ((does.0).unread ++ piece) in
    same_own P _ x'.state (ap state_in does.3)
    (session_put P x (with_session x s next) s next (λ t. refl) refl all.claims
    (all.sessions s does.0 does.1) all)
does_own w sound P joins x (Turn s now) output x' well free does all =
    turn_own w sound P x s now
    (is_timed (is_there is_running (x.state.session s)) NoSession now free) output x' does
    (well.numbered.peer s does.session does.there
    (turns_runs (x.state.session s) does.session now does.there free))
    all
does_own w sound P joins x (Write g now) output x' well free does all =
    write_own w P joins x g now x' does.1 all
does_own w sound P joins x (Break s) output x' well free does all =
    let next = in_phase does.0 Leaving in
    same_own P _ x'.state (ap state_in does.3)
    (session_put P x (with_session x s next) s next (λ t. refl) refl all.claims tt all)
does_own w sound P joins x (Expire shard now) output x' well free does all =
    same_own P _ x'.state (ap state_in does.1) (expired_own w P x shard now x.work.expirer all)
does_own w sound P joins x Restart output x' well free does all =
    restarted_own w P x output x' does all

-- each step
pub step_own : (w : Terms) → IsSound w → (P : Kept → Type 0) → Joins P → (x : World) (event : Event)
    (output : Output) (x' : World) → IsWell w x → Step w x event output x' → AllOwn P x.state
    → AllOwn P x'.state
step_own w sound P joins x event output x' well (IsRefused fault is said e) all =
    same_own P x.state x'.state (ap state_in e) all
step_own w sound P joins x event output x' well (WantsMemory takes said e) all =
    same_own P x.state x'.state (ap state_in e) all
step_own w sound P joins x event output x' well (IsDone free does) all =
    does_own w sound P joins x event output x' well free does all
