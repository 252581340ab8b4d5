-- What a step does to what is stored and gained: nothing but that a feed is taken from, or one rule
-- of the writers.
use Rattle.std.proofs.Common.{◌≡◌, ◌-◌, ◌≤◌, ℕ, nat_lt, nat_le, Bool, true, false, List}
use Rattle.std.proofs.Common.{length, Option, None, Some, refl, sym, ap, subst}
use Rattle.std.proofs.lemmas.Bool.{leb-true}
use Rattle.std.specs.Prelude.{slice_get}
use Rattle.news_terms.specs.Places.{Buffer}
use Rattle.news_terms.specs.Token.{Token}
use Rattle.relay_model.specs.Asks.{Ask, Rests, GoesOn, Says, Leaves, Offers, Looks, Reads}
use Rattle.relay_model.specs.Asks.{TakesQueue, Refuses, Takes, Pushes, LooksInSlot, Releases, Ends}
use Rattle.relay_model.specs.Claims.{after_offer, after_take, after_refuse, after_release, Passed}
use Rattle.relay_model.specs.Claims.{Claim}
use Rattle.relay_model.specs.Run.{Event, Open, Bytes, Turn, Write, Break, Expire, Restart, Step}
use Rattle.relay_model.specs.Run.{Does}
use Rattle.relay_model.specs.Run.{IsRefused, WantsMemory, IsDone, Turns, Restarts, IsBusy}
use Rattle.relay_model.specs.Run.{HasNoRoom}
use Rattle.relay_model.specs.Run.{HasNot, refusal, opened, expired, reads_front, forgotten}
use Rattle.relay_model.specs.Run.{restarted, first_of_two, is_there, is_running}
use Rattle.relay_model.specs.Run as run
use Rattle.relay_model.specs.Shares.{known_at, Answer, Shares, Reading, IsFound, HasNotRead}
use Rattle.relay_model.specs.Shares.{Pushing}
use Rattle.relay_model.specs.Shares.{queue_taken}
use Rattle.relay_model.specs.Shares.{ring_of, after_take_of, pushed, untold}
use Rattle.relay_model.specs.State.{State, Session, Job, Feed}
use Rattle.relay_model.specs.Terms.{Terms, queue_limit, last_moment}
use Rattle.relay_model.specs.World.{World, Output, Expirer, Forgetting, with_claim}
use Rattle.relay_model.specs.World.{with_session, with_failures, Fault, NoSession, NoGroup}
use Rattle.relay_model.specs.World.{BadMoment}
use Rattle.relay_model.specs.World as world
use Rattle.relay_model.specs.Writers.{Begins, Stores, Fails, Accepts, Abandons, Writes, NoJob, Pops}
use Rattle.relay_model.specs.Writers.{HasBegun, FindsWorn, WritesBlock, FailsToWrite, HasStored}
use Rattle.relay_model.specs.Writers.{Settles, Closes, Forgets, TellsKept, TellsFailed}
use Rattle.relay_facts.proofs.Puts.{put_at_both}
use Rattle.relay_facts.proofs.Steps.{first_passes}
use Rattle.relay_facts.proofs.ClaimMoves.{ClaimGoes, Stays, offer_goes, take_goes, refuse_goes}
use Rattle.relay_facts.proofs.ClaimMoves.{release_goes, forgetting_goes, restart_goes, put_goes}

-- how a feed goes on that gains nothing: it stays, or is taken from
pub data FeedGoes (before after : Feed) : Type 0 where
  IsLeft : after ≡ before → FeedGoes before after
  IsTaken : (ring most : ℕ) → after ≡ after_take_of ring most before → FeedGoes before after

-- such a feed gained what it had
pub goes_gained : (before after : Feed) → FeedGoes before after → after.gained ≡ before.gained
goes_gained before after (IsLeft same) = ap (λ (one : Feed). one.gained) same
goes_gained before after (IsTaken ring most is) = ap (λ (one : Feed). one.gained) is

-- what is stored and gained stays
pub record SameStore (σ τ : State) : Type 0 where
  pub claims : (id : List ℕ) → ClaimGoes (σ.claim id) (τ.claim id)
  pub begun : (g : ℕ) → τ.begun g ≡ σ.begun g
  pub kept : τ.kept ≡ σ.kept
  pub accepted : τ.accepted ≡ σ.accepted
  pub feeds : (f : ℕ) → FeedGoes (σ.feed f) (τ.feed f)

-- what a step does
pub data Moves (w : Terms) (σ τ : State) : Type 0 where
  LeavesStore : SameStore σ τ → Moves w σ τ
  Begun : (job : Job) (token : Token) → Begins w σ job token τ → Moves w σ τ
  Stored : (job : Job) (token : Token) → Stores σ job token τ → Moves w σ τ
  Failed : (job : Job) (token : Token) → Fails σ job token τ → Moves w σ τ
  Accepted : (job : Job) (token : Token) (now : ℕ) → now ≤ last_moment
      → Accepts σ job token now τ → Moves w σ τ
  Abandoned : (job : Job) → Abandons w σ job τ → Moves w σ τ

-- the same state
pub same_store : (σ : State) → SameStore σ σ
same_store σ = record {
  claims = λ id. Stays refl;
  begun = λ g. refl;
  kept = refl;
  accepted = refl;
  feeds = λ f. IsLeft refl;
}

-- one id's claim changes
claim_changes : (x : World) (id : List ℕ) (claim : Claim) → ClaimGoes (x.state.claim id) claim
    → SameStore x.state (with_claim x id claim).state
claim_changes x id claim goes = record {
  claims = put_goes x.state.claim id claim goes;
  begun = λ g. refl;
  kept = refl;
  accepted = refl;
  feeds = λ f. IsLeft refl;
}

-- a feed's queue is taken
queue_same : (x : World) (ring feed most : ℕ)
    → SameStore x.state (queue_taken x ring feed most).state
queue_same x ring feed most = record {
  claims = λ id. Stays refl;
  begun = λ g. refl;
  kept = refl;
  accepted = refl;
  feeds = λ f.
      put_at_both (FeedGoes (x.state.feed f)) x.state.feed feed
      (after_take_of ring most (x.state.feed feed)) f
      (λ e. IsTaken ring most (ap (λ n. after_take_of ring most (x.state.feed n)) (sym e)))
      (λ other. IsLeft refl);
}

-- a session goes on
session_same : (σ : State) (y : World) (s : ℕ) (next : Session) → SameStore σ y.state
    → SameStore σ (with_session y s next).state
session_same σ y s next same = record {
  claims = same.claims;
  begun = same.begun;
  kept = same.kept;
  accepted = same.accepted;
  feeds = same.feeds;
}

-- what was so in a world holds in the one that it is
pub moved : (σ : State) (y z : World) → y ≡ z → SameStore σ z.state → SameStore σ y.state
moved σ y z e same = subst (λ (one : World). SameStore σ one.state) (sym e) same

-- a token that was read
reading_same : (w : Terms) (x : World) (token : Token) (answer : Answer) (y : World)
    → Reading w x token answer y → SameStore x.state y.state
reading_same w x token answer y (IsFound failures rises says e) =
    moved x.state y (with_failures x failures) e (same_store x.state)
reading_same w x token answer y (HasNotRead failures none failed says e) =
    moved x.state y (with_failures x failures) e (same_store x.state)

-- a push
pushing_same : (x : World) (job : Job) (room : Bool) (answer : Answer) (y : World)
    → Pushing x job room answer y → SameStore x.state y.state
pushing_same x job true answer y pushes =
    moved x.state y (pushed x job) pushes.1 (same_store x.state)
pushing_same x job false answer y pushes = moved x.state y x pushes.1 (same_store x.state)

-- what is shared in a Turn
shared_same : (w : Terms) (x : World) (s now : ℕ) → now ≤ last_moment → (ask : Ask)
    (answer : Answer) (y : World) → Shares w x s now ask answer y → SameStore x.state y.state
shared_same w x s now timed Rests answer y e = moved x.state y x e.1 (same_store x.state)
shared_same w x s now timed GoesOn answer y e = moved x.state y x e.1 (same_store x.state)
shared_same w x s now timed (Says reply) answer y e = moved x.state y x e.1 (same_store x.state)
shared_same w x s now timed (Leaves reply) answer y e = moved x.state y x e.1 (same_store x.state)
shared_same w x s now timed (Offers transfer id) answer y e =
    moved x.state y (with_claim x id (after_offer s now (known_at w x now id))) e.1
    (claim_changes x id (after_offer s now (known_at w x now id))
    (offer_goes w.offers s now (x.state.claim id)))
shared_same w x s now timed (Looks part id) answer y e = moved x.state y x e.1 (same_store x.state)
shared_same w x s now timed (Reads asked token had) answer y reads =
    reading_same w x token answer y reads
shared_same w x s now timed (TakesQueue feed most) answer y e =
    moved x.state y (queue_taken x (ring_of (slice_get w.feeds feed)) feed most) e.1
    (queue_same x (ring_of (slice_get w.feeds feed)) feed most)
shared_same w x s now timed (Refuses transfer id reason) answer y e =
    moved x.state y (with_claim x id (after_refuse s now (known_at w x now id))) e.1
    (claim_changes x id (after_refuse s now (known_at w x now id))
    (refuse_goes w.offers s now timed (x.state.claim id)))
shared_same w x s now timed (Takes transfer id article) answer y e =
    moved x.state y (with_claim x id (after_take s article (x.state.claim id))) e.1
    (claim_changes x id (after_take s article (x.state.claim id))
    (take_goes s article (x.state.claim id)))
shared_same w x s now timed (Pushes job) answer y e =
    pushing_same x job (nat_lt (length (x.work.queue job.article.group)) queue_limit) answer y e
shared_same w x s now timed (LooksInSlot transfer id) answer y e =
    moved x.state y (untold x s) e.1 (same_store x.state)
shared_same w x s now timed (Releases id) answer y e =
    moved x.state y (with_claim x id (after_release s (x.state.claim id))) e.1
    (claim_changes x id (after_release s (x.state.claim id)) (release_goes s (x.state.claim id)))
shared_same w x s now timed Ends answer y e = moved x.state y x e.1 (same_store x.state)

-- a Turn
pub turn_same : (w : Terms) (x : World) (s now : ℕ) → now ≤ last_moment → (output : Output)
    (x' : World) → Turns w x s now output x' → SameStore x.state x'.state
turn_same w x s now timed output x' turn =
    moved x.state x' (with_session turn.between s turn.heard.session) turn.after
    (session_same x.state turn.between s turn.heard.session
    (shared_same w x s now timed turn.due.ask turn.answer turn.between turn.shares))

-- a Write
write_moves : (w : Terms) (x : World) (g now : ℕ) → now ≤ last_moment → (x' : World)
    → Writes w x g now x' → Moves w x.state x'.state
write_moves w x g now timed x' (NoJob idle empty e) =
    LeavesStore (moved x.state x' x e (same_store x.state))
write_moves w x g now timed x' (Pops job rest idle queue e) =
    LeavesStore (moved x.state x' _ e (same_store x.state))
write_moves w x g now timed x' (HasBegun job token τ has begins e) =
    Begun job token (subst (λ (one : World). Begins w x.state job token one.state) (sym e) begins)
write_moves w x g now timed x' (FindsWorn job has worn e) =
    LeavesStore (moved x.state x' _ e (same_store x.state))
write_moves w x g now timed x' (WritesBlock job token written failures has left rises e) =
    LeavesStore (moved x.state x' _ e (same_store x.state))
write_moves w x g now timed x' (FailsToWrite job token written failures τ has left failed fails e) =
    Failed job token (subst (λ (one : World). Fails x.state job token one.state) (sym e) fails)
write_moves w x g now timed x' (HasStored job token written τ has all stores e) =
    Stored job token (subst (λ (one : World). Stores x.state job token one.state) (sym e) stores)
write_moves w x g now timed x' (Settles job token τ has accepts e) =
    Accepted job token now timed
    (subst (λ (one : World). Accepts x.state job token now one.state) (sym e) accepts)
write_moves w x g now timed x' (Closes job token has e) =
    LeavesStore (moved x.state x' _ e (same_store x.state))
write_moves w x g now timed x' (Forgets job τ has abandons e) =
    Abandoned job (subst (λ (one : World). Abandons w x.state job one.state) (sym e) abandons)
write_moves w x g now timed x' (TellsKept s has e) =
    LeavesStore (moved x.state x' _ e (same_store x.state))
write_moves w x g now timed x' (TellsFailed s has e) =
    LeavesStore (moved x.state x' _ e (same_store x.state))

-- an Expire that forgets
forgotten_same : (w : Terms) (x : World) (shard now : ℕ) (fronts : List Passed) (left : ℕ)
    → SameStore x.state (forgotten w x shard now fronts left).state
forgotten_same w x shard now fronts left = record {
  claims = forgetting_goes x.state.claim shard now w.remember fronts;
  begun = λ g. refl;
  kept = refl;
  accepted = refl;
  feeds = λ f. IsLeft refl;
}

-- an Expire, by what it reads
front_same : (w : Terms) (x : World) (shard now : ℕ) (fronts : List Passed) (next : Option Buffer)
    → SameStore x.state (reads_front w x shard now fronts next).state
front_same w x shard now fronts (Some buffer) = same_store x.state
front_same w x shard now fronts None = forgotten_same w x shard now fronts 15

-- an Expire
pub expired_same : (w : Terms) (x : World) (shard now : ℕ) (expirer : Expirer)
    → SameStore x.state (expired w x shard now expirer).state
expired_same w x shard now (world.Reading fronts) =
    front_same w x shard now fronts (slice_get w.buffers (length fronts))
expired_same w x shard now (Forgetting fronts left) =
    forgotten_same w x shard now fronts (left - 1)

-- a Restart that is done
restarted_same : (x : World) (failures : ℕ → ℕ) → SameStore x.state (restarted x failures).state
restarted_same x failures = record {
  claims = λ id. restart_goes (x.state.claim id);
  begun = λ g. refl;
  kept = refl;
  accepted = refl;
  feeds = λ f. IsLeft refl;
}

-- a Restart
pub restart_same : (w : Terms) (x : World) (output : Output) (x' : World) → Restarts w x output x'
    → SameStore x.state x'.state
restart_same w x output x' (IsBusy id busy said e) = moved x.state x' x e (same_store x.state)
restart_same w x output x' (HasNoRoom failures rises said e) =
    moved x.state x' (with_failures x failures) e (same_store x.state)
restart_same w x output x' (HasNot i buffer failures there idle failed said e) =
    moved x.state x' (with_failures x failures) e (same_store x.state)
restart_same w x output x' (run.IsDone failures idle rises said e) =
    moved x.state x' (restarted x failures) e (restarted_same x failures)

-- the moment of an event that isn't refused is one that there is
pub is_timed : (there : Bool) (fault : Fault) (now : ℕ)
    → first_of_two there fault (nat_le now last_moment) BadMoment ≡ None → now ≤ last_moment
is_timed there fault now free =
    leb-true now last_moment (first_passes there fault (nat_le now last_moment) BadMoment free).1

-- an event that isn't refused
does_moves : (w : Terms) (x : World) (event : Event) (output : Output) (x' : World)
    → refusal w x.state event ≡ None → Does w x event output x' → Moves w x.state x'.state
does_moves w x (Open s peer) output x' free does =
    LeavesStore (moved x.state x' (opened x s peer) does.1
    (record {
      claims = λ id. Stays refl;
      begun = λ g. refl;
      kept = refl;
      accepted = refl;
      feeds = λ f. IsLeft refl;
    }))
does_moves w x (Bytes s piece) output x' free does =
    LeavesStore (moved x.state x' _ does.3 (session_same x.state x s _ (same_store x.state)))
does_moves w x (Turn s now) output x' free does =
    LeavesStore (turn_same w x s now
    (is_timed (is_there is_running (x.state.session s)) NoSession now free) output x' does)
does_moves w x (Write g now) output x' free does =
    write_moves w x g now (is_timed (nat_lt g (length w.groups)) NoGroup now free) x' does.1
does_moves w x (Break s) output x' free does =
    LeavesStore (moved x.state x' _ does.3 (session_same x.state x s _ (same_store x.state)))
does_moves w x (Expire shard now) output x' free does =
    LeavesStore (moved x.state x' _ does.1 (expired_same w x shard now x.work.expirer))
does_moves w x Restart output x' free does = LeavesStore (restart_same w x output x' does)

-- each step
pub step_moves : (w : Terms) (x : World) (event : Event) (output : Output) (x' : World)
    → Step w x event output x' → Moves w x.state x'.state
step_moves w x event output x' (IsRefused fault is said e) =
    LeavesStore (moved x.state x' x e (same_store x.state))
step_moves w x event output x' (WantsMemory takes said e) =
    LeavesStore (moved x.state x' x e (same_store x.state))
step_moves w x event output x' (IsDone free does) = does_moves w x event output x' free does
