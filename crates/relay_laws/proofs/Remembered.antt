-- What a step does to the claim on a message-id: it stays, or the id wasn't remembered, or an
-- Expire of its shard forgets it.
use Rattle.std.proofs.Common.{◌≡◌, ◌∙◌, ℕ, ◌+◌, ◌==◌, ◌&&◌, nat_le, nat_lt, Bool, true}
use Rattle.std.proofs.Common.{false, List, length, Option, None, Some, if◌then◌else◌, refl, sym}
use Rattle.std.proofs.Common.{ap, subst, eqb-true, leb-true}
use Rattle.std.proofs.lemmas.Bool.{and_parts}
use Rattle.std.proofs.lemmas.Option.{none-some, same_Some}
use Rattle.std.specs.Prelude.{slice_get}
use Rattle.news_terms.specs.Places.{Buffer}
use Rattle.news_terms.specs.Token.{Token}
use Rattle.relay_model.specs.Asks.{Ask, Rests, GoesOn, Says, Leaves, Offers, Looks, Reads}
use Rattle.relay_model.specs.Asks.{TakesQueue, Refuses, Takes, Pushes, LooksInSlot, Releases, Ends}
use Rattle.relay_model.specs.Claims.{Accepted, Claim, Unknown, Offered, Storing, Stored, Refused}
use Rattle.relay_model.specs.Claims.{Passed, is_passed, after_offer, after_take, after_refuse}
use Rattle.relay_model.specs.Claims.{after_release, after_expire, after_restart, standing}
use Rattle.relay_model.specs.Run.{Event, Open, Bytes, Turn, Write, Break, Expire, Restart, Step}
use Rattle.relay_model.specs.Run.{Does, IsRefused, WantsMemory, IsDone, Restarts, IsBusy}
use Rattle.relay_model.specs.Run.{HasNoRoom, HasNot, expired, reads_front, forgotten, forgetting}
use Rattle.relay_model.specs.Run.{opened, restarted, shard_of}
use Rattle.relay_model.specs.Run as run
use Rattle.relay_model.specs.Shares.{known_at, Answer, Shares, Reading, IsFound, HasNotRead}
use Rattle.relay_model.specs.Shares.{Pushing}
use Rattle.relay_model.specs.Shares.{known_at, queue_taken, ring_of, pushed, untold}
use Rattle.relay_model.specs.State.{State, Job, put_id}
use Rattle.relay_model.specs.Terms.{Terms, queue_limit}
use Rattle.relay_model.specs.World.{World, Output, Expirer, Forgetting, with_claim, with_failures}
use Rattle.relay_model.specs.World as world
use Rattle.relay_model.specs.Writers.{Writes, NoJob, Pops, HasBegun, FindsWorn, WritesBlock}
use Rattle.relay_model.specs.Writers.{FailsToWrite, HasStored, Settles, Closes, Forgets, TellsKept}
use Rattle.relay_model.specs.Writers.{TellsFailed, IsHopeless, HasFailedToStore, CannotBegin}
use Rattle.relay_facts.proofs.Puts.{put_id_both, same_id}
use Rattle.relay_laws.specs.Forgetting.{ForgetsOld, fronts_read, remembered_at}

-- a claim stays, or its id wasn't remembered
pub data Rests_or (before after : Claim) : Type 0 where
  Stays : after ≡ before → Rests_or before after
  IsNew : remembered_at before ≡ None → Rests_or before after

-- by whether a rule changes it
by_test : (before one other : Claim) (test : Bool) → Rests_or before one → Rests_or before other
    → Rests_or before (if test then one else other)
by_test before one other true first second = first
by_test before one other false first second = second

-- CHECK and IHAVE
offer_rests : (offers : Option ℕ) (s now : ℕ) (claim : Claim)
    → Rests_or claim (after_offer s now (standing offers now claim))
offer_rests offers s now Unknown = IsNew refl
offer_rests offers s now (Offered other since) = IsNew refl
offer_rests offers s now (Storing other article stage) = Stays refl
offer_rests offers s now (Stored token moment) = Stays refl
offer_rests offers s now (Refused moment) = Stays refl

-- an article that was accepted
take_rests : (s : ℕ) (article : Accepted) (claim : Claim)
    → Rests_or claim (after_take s article claim)
take_rests s article Unknown = IsNew refl
take_rests s article (Offered other since) = IsNew refl
take_rests s article (Storing other stored stage) = Stays refl
take_rests s article (Stored token moment) = Stays refl
take_rests s article (Refused moment) = Stays refl

-- an article that was refused
refuse_rests : (offers : Option ℕ) (s now : ℕ) (claim : Claim)
    → Rests_or claim (after_refuse s now (standing offers now claim))
refuse_rests offers s now Unknown = IsNew refl
refuse_rests offers s now (Offered other since) = IsNew refl
refuse_rests offers s now (Storing other article stage) = Stays refl
refuse_rests offers s now (Stored token moment) = Stays refl
refuse_rests offers s now (Refused moment) = Stays refl

-- an open offer that ends
release_rests : (s : ℕ) (claim : Claim) → Rests_or claim (after_release s claim)
release_rests s Unknown = Stays refl
release_rests s (Offered other since) = IsNew refl
release_rests s (Storing other article stage) = Stays refl
release_rests s (Stored token moment) = Stays refl
release_rests s (Refused moment) = Stays refl

-- Restart
restart_rests : (claim : Claim) → Rests_or claim (after_restart claim)
restart_rests Unknown = Stays refl
restart_rests (Offered other since) = IsNew refl
restart_rests (Storing other article stage) = Stays refl
restart_rests (Stored token moment) = Stays refl
restart_rests (Refused moment) = Stays refl

-- one id's claim changes so, and every other stays
put_rests : (claims : List ℕ → Claim) (k : List ℕ) (new : Claim) → Rests_or (claims k) new
    → (id : List ℕ) → Rests_or (claims id) (put_id claims k new id)
put_rests claims k new rests id =
    put_id_both (Rests_or (claims id)) claims k new id
    (λ same. subst (λ n. Rests_or (claims n) new) (sym (same_id id k same)) rests)
    (λ other. Stays refl)

-- what a world does to the claims
abbrev All_rest : World → World → Type 0
All_rest x y = (id : List ℕ) → Rests_or (x.state.claim id) (y.state.claim id)

-- what holds of a world holds of the one that is it
moved : (x y z : World) → y ≡ z → All_rest x z → All_rest x y
moved x y z e rests = subst (All_rest x) (sym e) rests

-- a world with these claims
all_stay : (x : World) → All_rest x x
all_stay x id = Stays refl

-- a token that was read
reading_rests : (w : Terms) (x : World) (token : Token) (answer : Answer) (y : World)
    → Reading w x token answer y → All_rest x y
reading_rests w x token answer y (IsFound failures rises says e) =
    moved x y (with_failures x failures) e (λ id. Stays refl)
reading_rests w x token answer y (HasNotRead failures none failed says e) =
    moved x y (with_failures x failures) e (λ id. Stays refl)

-- a push
pushing_rests : (x : World) (job : Job) (room : Bool) (answer : Answer) (y : World)
    → Pushing x job room answer y → All_rest x y
pushing_rests x job true answer y pushes = moved x y (pushed x job) pushes.1 (λ id. Stays refl)
pushing_rests x job false answer y pushes = moved x y x pushes.1 (all_stay x)

-- what is shared in a Turn
shared_rests : (w : Terms) (x : World) (s now : ℕ) (ask : Ask) (answer : Answer) (y : World)
    → Shares w x s now ask answer y → All_rest x y
shared_rests w x s now Rests answer y e = moved x y x e.1 (all_stay x)
shared_rests w x s now GoesOn answer y e = moved x y x e.1 (all_stay x)
shared_rests w x s now (Says reply) answer y e = moved x y x e.1 (all_stay x)
shared_rests w x s now (Leaves reply) answer y e = moved x y x e.1 (all_stay x)
shared_rests w x s now (Offers transfer id) answer y e =
    moved x y (with_claim x id (after_offer s now (known_at w x now id))) e.1
    (put_rests x.state.claim id _ (offer_rests w.offers s now (x.state.claim id)))
shared_rests w x s now (Looks part id) answer y e = moved x y x e.1 (all_stay x)
shared_rests w x s now (Reads asked token had) answer y reads =
    reading_rests w x token answer y reads
shared_rests w x s now (TakesQueue feed most) answer y e =
    moved x y (queue_taken x (ring_of (slice_get w.feeds feed)) feed most) e.1 (λ id. Stays refl)
shared_rests w x s now (Refuses transfer id reason) answer y e =
    moved x y (with_claim x id (after_refuse s now (known_at w x now id))) e.1
    (put_rests x.state.claim id _ (refuse_rests w.offers s now (x.state.claim id)))
shared_rests w x s now (Takes transfer id article) answer y e =
    moved x y (with_claim x id (after_take s article (x.state.claim id))) e.1
    (put_rests x.state.claim id _ (take_rests s article (x.state.claim id)))
shared_rests w x s now (Pushes job) answer y e =
    pushing_rests x job (nat_lt (length (x.work.queue job.article.group)) queue_limit) answer y e
shared_rests w x s now (LooksInSlot transfer id) answer y e =
    moved x y (untold x s) e.1 (λ id. Stays refl)
shared_rests w x s now (Releases id) answer y e =
    moved x y (with_claim x id (after_release s (x.state.claim id))) e.1
    (put_rests x.state.claim id _ (release_rests s (x.state.claim id)))
shared_rests w x s now Ends answer y e = moved x y x e.1 (all_stay x)

-- why an article is given up: its id isn't remembered yet
hopeless_new : (w : Terms) (x : World) (job : Job) → IsHopeless w x.state job
    → remembered_at (x.state.claim job.id) ≡ None
hopeless_new w x job (HasFailedToStore failed) = ap remembered_at failed
hopeless_new w x job (CannotBegin worn) = ap remembered_at worn.waiting

-- a state whose claim on one id changed so
put_state : (x : World) (τ : State) (k : List ℕ) (new : Claim)
    → ((id : List ℕ) → τ.claim id ≡ put_id x.state.claim k new id)
    → remembered_at (x.state.claim k) ≡ None
    → (id : List ℕ) → Rests_or (x.state.claim id) (τ.claim id)
put_state x τ k new puts is_new id =
    subst (Rests_or (x.state.claim id)) (sym (puts id))
    (put_rests x.state.claim k new (IsNew is_new) id)

-- a Write
write_rests : (w : Terms) (x : World) (g now : ℕ) (y : World) → Writes w x g now y → All_rest x y
write_rests w x g now y (NoJob idle empty e) = moved x y x e (all_stay x)
write_rests w x g now y (Pops job rest idle queue e) = moved x y _ e (λ id. Stays refl)
write_rests w x g now y (HasBegun job token τ has begins e) =
    moved x y _ e (put_state x τ job.id _ (λ id. ap (λ (σ : State). σ.claim id) begins.after)
    (ap remembered_at begins.waiting))
write_rests w x g now y (FindsWorn job has worn e) = moved x y _ e (λ id. Stays refl)
write_rests w x g now y (WritesBlock job token written failures has left rises e) =
    moved x y _ e (λ id. Stays refl)
write_rests w x g now y (FailsToWrite job token written failures τ has left failed fails e) =
    moved x y _ e (put_state x τ job.id _ (λ id. ap (λ (σ : State). σ.claim id) fails.after)
    (ap remembered_at fails.begun))
write_rests w x g now y (HasStored job token written τ has all stores e) =
    moved x y _ e (put_state x τ job.id _ (λ id. ap (λ (σ : State). σ.claim id) stores.after)
    (ap remembered_at stores.begun))
write_rests w x g now y (Settles job token τ has accepts e) =
    moved x y _ e (put_state x τ job.id _ (λ id. ap (λ (σ : State). σ.claim id) accepts.after)
    (ap remembered_at accepts.whole))
write_rests w x g now y (Closes job token has e) = moved x y _ e (λ id. Stays refl)
write_rests w x g now y (Forgets job τ has abandons e) =
    moved x y _ e (put_state x τ job.id _ (λ id. ap (λ (σ : State). σ.claim id) abandons.after)
    (hopeless_new w x job abandons.hopeless))
write_rests w x g now y (TellsKept s has e) = moved x y _ e (λ id. Stays refl)
write_rests w x g now y (TellsFailed s has e) = moved x y _ e (λ id. Stays refl)

-- how the claim on an id goes on by an event: it rests, or these fronts let an Expire forget it
pub data Goes_on (w : Terms) (id : List ℕ) (event : Event) (fronts : List Passed)
    (before after : Claim) : Type 0 where
  Keeps : Rests_or before after → Goes_on w id event fronts before after
  IsForgotten : (moment : ℕ) → remembered_at before ≡ Some moment → after ≡ Unknown
      → ForgetsOld w id moment event
      → ((token : Token) (at : ℕ) → before ≡ Stored token at → is_passed fronts token ≡ true)
      → Goes_on w id event fronts before after

-- an Expire of the id's shard
expire_goes : (w : Terms) (id : List ℕ) (shard now remember : ℕ) (fronts : List Passed)
    → shard_of id ≡ shard → w.remember ≡ Some remember → (claim : Claim)
    → Goes_on w id (Expire shard now) fronts claim (after_expire now remember fronts claim)
expire_goes w id shard now remember fronts own asked Unknown = Keeps (Stays refl)
expire_goes w id shard now remember fronts own asked (Offered session since) = Keeps (Stays refl)
expire_goes w id shard now remember fronts own asked (Storing session article stage) =
    Keeps (Stays refl)
expire_goes w id shard now remember fronts own asked (Stored token moment) =
    by (nat_le (moment + remember) now && is_passed fronts token) refl
  where
    by : (test : Bool) → (nat_le (moment + remember) now && is_passed fronts token) ≡ test
        → Goes_on w id (Expire shard now) fronts (Stored token moment)
        (if test then Unknown else Stored token moment)
    by true passes =
        let parts = and_parts (nat_le (moment + remember) now) (is_passed fronts token) passes in
        IsForgotten moment refl refl
        (record {
          shard = shard;
          now = now;
          remember = remember;
          is = refl;
          own = own;
          asked = asked;
          old = leb-true (moment + remember) now parts.0;
        })
        (λ other at same.
        let one : token ≡ other = cc in
        subst (λ t. is_passed fronts t ≡ true) one parts.1)
    by false fails = Keeps (Stays refl)
expire_goes w id shard now remember fronts own asked (Refused moment) =
    by (nat_le (moment + remember) now) refl
  where
    by : (test : Bool) → nat_le (moment + remember) now ≡ test
        → Goes_on w id (Expire shard now) fronts (Refused moment)
        (if test then Unknown else Refused moment)
    by true passes =
        IsForgotten moment refl refl
        (record {
          shard = shard;
          now = now;
          remember = remember;
          is = refl;
          own = own;
          asked = asked;
          old = leb-true (moment + remember) now passes;
        })
        (λ other at same. absurd (cc))
    by false fails = Keeps (Stays refl)

-- an Expire, by whether ids are forgotten and whether the id is of its shard
forgetting_goes : (w : Terms) (claim : List ℕ → Claim) (id : List ℕ) (shard now : ℕ)
    (fronts : List Passed) (remember : Option ℕ) → w.remember ≡ remember
    → Goes_on w id (Expire shard now) fronts (claim id)
    (forgetting claim shard now remember fronts id)
forgetting_goes w claim id shard now fronts None asked = Keeps (Stays refl)
forgetting_goes w claim id shard now fronts (Some remember) asked =
    by (shard_of id == shard) refl
  where
    by : (test : Bool) → (shard_of id == shard) ≡ test
        → Goes_on w id (Expire shard now) fronts (claim id)
        (if test then after_expire now remember fronts (claim id) else claim id)
    by true own =
        expire_goes w id shard now remember fronts (eqb-true (shard_of id) shard own) asked
        (claim id)
    by false other = Keeps (Stays refl)

-- an Expire, by what it reads
front_goes : (w : Terms) (x : World) (id : List ℕ) (shard now : ℕ) (fronts : List Passed)
    (next : Option Buffer)
    → Goes_on w id (Expire shard now) fronts (x.state.claim id)
    ((reads_front w x shard now fronts next).state.claim id)
front_goes w x id shard now fronts (Some buffer) = Keeps (Stays refl)
front_goes w x id shard now fronts None =
    forgetting_goes w x.state.claim id shard now fronts w.remember refl

-- an Expire
expired_goes : (w : Terms) (x : World) (id : List ℕ) (shard now : ℕ) (expirer : Expirer)
    → Goes_on w id (Expire shard now) (fronts_read expirer) (x.state.claim id)
    ((expired w x shard now expirer).state.claim id)
expired_goes w x id shard now (world.Reading fronts) =
    front_goes w x id shard now fronts (slice_get w.buffers (length fronts))
expired_goes w x id shard now (Forgetting fronts left) =
    forgetting_goes w x.state.claim id shard now fronts w.remember refl

-- a Restart
restart_all : (w : Terms) (x : World) (output : Output) (y : World) → Restarts w x output y
    → All_rest x y
restart_all w x output y (IsBusy id busy said e) = moved x y x e (all_stay x)
restart_all w x output y (HasNoRoom failures rises said e) =
    moved x y (with_failures x failures) e (λ id. Stays refl)
restart_all w x output y (HasNot i buffer failures there idle failed said e) =
    moved x y (with_failures x failures) e (λ id. Stays refl)
restart_all w x output y (run.IsDone failures idle rises said e) =
    moved x y (restarted x failures) e (λ id. restart_rests (x.state.claim id))

-- an event that isn't refused
does_goes : (w : Terms) (x : World) (event : Event) (output : Output) (y : World) (id : List ℕ)
    → Does w x event output y
    → Goes_on w id event (fronts_read x.work.expirer) (x.state.claim id) (y.state.claim id)
does_goes w x (Open s peer) output y id does =
    Keeps (moved x y (opened x s peer) does.1 (λ k. Stays refl) id)
does_goes w x (Bytes s piece) output y id does = Keeps (moved x y _ does.3 (λ k. Stays refl) id)
does_goes w x (Turn s now) output y id turn =
    Keeps (moved x y _ turn.after
    (shared_rests w x s now turn.due.ask turn.answer turn.between turn.shares) id)
does_goes w x (Write g now) output y id does = Keeps (write_rests w x g now y does.1 id)
does_goes w x (Break s) output y id does = Keeps (moved x y _ does.3 (λ k. Stays refl) id)
does_goes w x (Expire shard now) output y id does =
    subst (λ (z : World). Goes_on w id (Expire shard now) (fronts_read x.work.expirer)
    (x.state.claim id) (z.state.claim id)) (sym does.1)
    (expired_goes w x id shard now x.work.expirer)
does_goes w x Restart output y id does = Keeps (restart_all w x output y does id)

-- each step
pub step_goes : (w : Terms) (x : World) (event : Event) (output : Output) (y : World)
    (id : List ℕ) → Step w x event output y
    → Goes_on w id event (fronts_read x.work.expirer) (x.state.claim id) (y.state.claim id)
step_goes w x event output y id (IsRefused fault is said e) =
    Keeps (moved x y x e (all_stay x) id)
step_goes w x event output y id (WantsMemory takes said e) =
    Keeps (moved x y x e (all_stay x) id)
step_goes w x event output y id (IsDone free does) = does_goes w x event output y id does

-- a remembered id that doesn't stay is forgotten by an Expire, when it is old enough
pub ends_by_expire : (w : Terms) (x y : World) (event : Event) (output : Output) (id : List ℕ)
    (moment : ℕ) → Step w x event output y → remembered_at (x.state.claim id) ≡ Some moment
    → (y.state.claim id ≡ x.state.claim id → ⊥)
    → (y.state.claim id ≡ Unknown) × ForgetsOld w id moment event
ends_by_expire w x y event output id moment step at ends =
    by (step_goes w x event output y id step)
  where
    by : Goes_on w id event (fronts_read x.work.expirer) (x.state.claim id) (y.state.claim id)
        → (y.state.claim id ≡ Unknown) × ForgetsOld w id moment event
    by (Keeps (Stays same)) = absurd (ends same)
    by (Keeps (IsNew new)) = absurd (none-some moment (sym new ∙ at))
    by (IsForgotten had was is old passed) =
        (is, subst (λ m. ForgetsOld w id m event) (same_Some had moment (sym was ∙ at)) old)
