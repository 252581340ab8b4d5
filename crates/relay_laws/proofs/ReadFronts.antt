-- The fronts that the expirer has read are fronts of buffers, so what they have passed is gone.
use Rattle.std.proofs.Common.{◌≡◌, ◌∙◌, ℕ, zero, suc, ◌+◌, ◌*◌, ◌-◌, ◌≤◌, ◌<◌, ◌==◌, nat_lt, Bool}
use Rattle.std.proofs.Common.{true, false, List, [], ◌∷◌, ◌++◌, All, length, Option, None, Some}
use Rattle.std.proofs.Common.{if◌then◌else◌, find, refl, sym, ap, subst, arith, eqb-true, eq-eqb}
use Rattle.std.proofs.Common.{ltb-true, true≢false, le_trans, le_refl, ◌⊎◌, inl, inr}
use Rattle.std.proofs.lemmas.List.Elements.{All-nil, All-push, All-head, All-tail, All-weaker}
use Rattle.std.specs.Prelude.{slice_get}
use Rattle.news_terms.specs.Places.{Buffer}
use Rattle.news_terms.specs.Token.{Token}
use Rattle.relay_model.specs.Asks.{Ask, Rests, GoesOn, Says, Leaves, Offers, Looks, Reads}
use Rattle.relay_model.specs.Asks.{TakesQueue, Refuses, Takes, Pushes, LooksInSlot, Releases, Ends}
use Rattle.relay_model.specs.Claims.{Unknown, Stored, Passed, is_passed}
use Rattle.relay_model.specs.Fetches.{front_of}
use Rattle.relay_model.specs.Invariants.{IsWell, IsSized}
use Rattle.relay_model.specs.Run.{Event, Open, Bytes, Turn, Write, Break, Expire, Restart, Step}
use Rattle.relay_model.specs.Run.{Does, IsRefused, WantsMemory, IsDone, Restarts, IsBusy}
use Rattle.relay_model.specs.Run.{HasNoRoom, HasNot, expired, reads_front, forgotten}
use Rattle.relay_model.specs.Run.{passed_of}
use Rattle.relay_model.specs.Run as run
use Rattle.relay_model.specs.Shares.{Answer, Shares, Reading, IsFound, HasNotRead, Pushing}
use Rattle.relay_model.specs.State.{State, Job}
use Rattle.relay_model.specs.Terms.{Terms, queue_limit}
use Rattle.relay_model.specs.World.{World, Output, Expirer, Forgetting, empty_world}
use Rattle.relay_model.specs.World as world
use Rattle.relay_model.specs.Writers.{Writes, NoJob, Pops, HasBegun, FindsWorn, WritesBlock}
use Rattle.relay_model.specs.Writers.{FailsToWrite, HasStored, Settles, Closes, Forgets, TellsKept}
use Rattle.relay_model.specs.Writers.{TellsFailed}
use Rattle.relay_facts.specs.Sound.{IsSound}
use Rattle.relay_laws.specs.Forgetting.{ForgetsGone, FrontsAreRead, IsReadFront, fronts_read}
use Rattle.relay_laws.specs.Laws.{Always, AlwaysFrom}
use Rattle.relay_model.specs.Fetches.{IsGoneToken}
use Rattle.relay_laws.proofs.Gone.{gone_stays}
use Rattle.relay_facts.proofs.Moves.{Moves, step_moves}
use Rattle.relay_facts.proofs.NamedBuffers.{Named, only_found}
use Rattle.relay_laws.proofs.Remembered.{Goes_on, Keeps, IsForgotten, Stays, IsNew}
use Rattle.relay_laws.proofs.Remembered.{step_goes}
use Rattle.relay_facts.proofs.RisingFronts.{front_rises}
use Rattle.relay_laws.proofs.Runs.{always_keeps, well_run_keeps}

-- a buffer is the one that its number names
named_there : (w : Terms) → IsSound w → (k : ℕ) (buffer : Buffer)
    → slice_get w.buffers k ≡ Some buffer → Named w buffer.number buffer
named_there w sound k buffer there =
    only_found (λ (one : Buffer). one.number == buffer.number) w.buffers k buffer there
    (eq-eqb buffer.number buffer.number refl)
    (λ j other is same.
    sound.places.apart j k other buffer is there (eqb-true other.number buffer.number same))

-- what a front that was read has passed is gone
one_passed : (w : Terms) → IsSound w → (σ : State) (token : Token) (one : Passed)
    → IsReadFront w σ one → one.buffer ≡ token.buffer
    → token.cycle * one.blocks + token.first + one.blocks < one.front → IsGoneToken w σ token
one_passed w sound σ token one is same passed =
    let blocks : one.blocks ≡ is.buffer.blocks = is.blocks in
    let there : token.cycle * is.buffer.blocks + token.first + is.buffer.blocks < one.front =
    subst (λ n. token.cycle * n + token.first + n < one.front) blocks passed in
    record {
      buffer = is.buffer;
      named =
          ap (λ n. find (λ (b : Buffer). b.number == n) w.buffers) (sym same ∙ is.number)
          ∙ named_there w sound is.index is.buffer is.there;
      gone = record { passed = later _ _ _ there is.past };
    }
  where
    later : (place front now : ℕ) → place < front → front ≤ now → place < now
    later place front now passed past = omega arith

-- what the fronts that were read have passed is gone
all_passed : (w : Terms) → IsSound w → (σ : State) (token : Token) (fronts : List Passed)
    → All (IsReadFront w σ) fronts → is_passed fronts token ≡ true → IsGoneToken w σ token
all_passed w sound σ token [] all passed = absurd (true≢false (sym passed))
all_passed w sound σ token (one ∷ others) all passed =
    by (one.buffer == token.buffer) refl passed
    (all_passed w sound σ token others (All-tail (IsReadFront w σ) one others all))
  where
    by : (test : Bool) → (one.buffer == token.buffer) ≡ test
        → (if test then nat_lt (token.cycle * one.blocks + token.first + one.blocks) one.front
        else is_passed others token) ≡ true
        → (is_passed others token ≡ true → IsGoneToken w σ token) → IsGoneToken w σ token
    by true same is later =
        one_passed w sound σ token one (All-head (IsReadFront w σ) one others all)
        (eqb-true one.buffer token.buffer same)
        (ltb-true (token.cycle * one.blocks + token.first + one.blocks) one.front is)
    by false other is later = later is

-- what a step that forgets a stored id forgets is gone
pub step_gone : (w : Terms) → IsSound w → (x y : World) (event : Event) (output : Output)
    (id : List ℕ) (token : Token) (moment : ℕ) → FrontsAreRead w x → Step w x event output y
    → x.state.claim id ≡ Stored token moment
    → (y.state.claim id ≡ Stored token moment) ⊎ IsGoneToken w x.state token
step_gone w sound x y event output id token moment fronts step stored =
    by (step_goes w x event output y id step)
  where
    by : Goes_on w id event (fronts_read x.work.expirer) (x.state.claim id) (y.state.claim id)
        → (y.state.claim id ≡ Stored token moment) ⊎ IsGoneToken w x.state token
    by (Keeps (Stays same)) = inl (same ∙ stored)
    by (Keeps (IsNew new)) = absurd (cc)
    by (IsForgotten had was is old passed) =
        inr (all_passed w sound x.state token (fronts_read x.work.expirer) fronts
        (passed token moment stored))

-- how the fronts that the expirer has read go on
data Fronts_go (w : Terms) (x y : World) : Type 0 where
  Same : fronts_read y.work.expirer ≡ fronts_read x.work.expirer → Fronts_go w x y
  None_read : fronts_read y.work.expirer ≡ [] → Fronts_go w x y
  One_more : (k : ℕ) (buffer : Buffer) → slice_get w.buffers k ≡ Some buffer
      → fronts_read y.work.expirer
      ≡ fronts_read x.work.expirer ++ passed_of w x.state buffer ∷ []
      → y.state ≡ x.state → Fronts_go w x y

-- the expirer stays
stays : (w : Terms) (x y z : World) → y ≡ z → z.work.expirer ≡ x.work.expirer → Fronts_go w x y
stays w x y z e same = Same (ap fronts_read (ap (λ (v : World). v.work.expirer) e ∙ same))

-- a Turn leaves the expirer
reading_stays : (w : Terms) (x : World) (token : Token) (answer : Answer) (y : World)
    → Reading w x token answer y → y.work.expirer ≡ x.work.expirer
reading_stays w x token answer y (IsFound failures rises says e) =
    ap (λ (v : World). v.work.expirer) e
reading_stays w x token answer y (HasNotRead failures none failed says e) =
    ap (λ (v : World). v.work.expirer) e

pushing_stays : (x : World) (job : Job) (room : Bool) (answer : Answer) (y : World)
    → Pushing x job room answer y → y.work.expirer ≡ x.work.expirer
pushing_stays x job true answer y pushes = ap (λ (v : World). v.work.expirer) pushes.1
pushing_stays x job false answer y pushes = ap (λ (v : World). v.work.expirer) pushes.1

pub shared_stays : (w : Terms) (x : World) (s now : ℕ) (ask : Ask) (answer : Answer) (y : World)
    → Shares w x s now ask answer y → y.work.expirer ≡ x.work.expirer
shared_stays w x s now Rests answer y e = ap (λ (v : World). v.work.expirer) e.1
shared_stays w x s now GoesOn answer y e = ap (λ (v : World). v.work.expirer) e.1
shared_stays w x s now (Says reply) answer y e = ap (λ (v : World). v.work.expirer) e.1
shared_stays w x s now (Leaves reply) answer y e = ap (λ (v : World). v.work.expirer) e.1
shared_stays w x s now (Offers transfer id) answer y e = ap (λ (v : World). v.work.expirer) e.1
shared_stays w x s now (Looks part id) answer y e = ap (λ (v : World). v.work.expirer) e.1
shared_stays w x s now (Reads asked token had) answer y reads =
    reading_stays w x token answer y reads
shared_stays w x s now (TakesQueue feed most) answer y e = ap (λ (v : World). v.work.expirer) e.1
shared_stays w x s now (Refuses transfer id reason) answer y e =
    ap (λ (v : World). v.work.expirer) e.1
shared_stays w x s now (Takes transfer id article) answer y e =
    ap (λ (v : World). v.work.expirer) e.1
shared_stays w x s now (Pushes job) answer y e =
    pushing_stays x job (nat_lt (length (x.work.queue job.article.group)) queue_limit) answer y e
shared_stays w x s now (LooksInSlot transfer id) answer y e = ap (λ (v : World). v.work.expirer) e.1
shared_stays w x s now (Releases id) answer y e = ap (λ (v : World). v.work.expirer) e.1
shared_stays w x s now Ends answer y e = ap (λ (v : World). v.work.expirer) e.1

-- so does a Write
pub write_stays : (w : Terms) (x : World) (g now : ℕ) (y : World) → Writes w x g now y
    → y.work.expirer ≡ x.work.expirer
write_stays w x g now y (NoJob idle empty e) = ap (λ (v : World). v.work.expirer) e
write_stays w x g now y (Pops job rest idle queue e) = ap (λ (v : World). v.work.expirer) e
write_stays w x g now y (HasBegun job token τ has begins e) = ap (λ (v : World). v.work.expirer) e
write_stays w x g now y (FindsWorn job has worn e) = ap (λ (v : World). v.work.expirer) e
write_stays w x g now y (WritesBlock job token written failures has left rises e) =
    ap (λ (v : World). v.work.expirer) e
write_stays w x g now y (FailsToWrite job token written failures τ has left failed fails e) =
    ap (λ (v : World). v.work.expirer) e
write_stays w x g now y (HasStored job token written τ has all stores e) =
    ap (λ (v : World). v.work.expirer) e
write_stays w x g now y (Settles job token τ has accepts e) = ap (λ (v : World). v.work.expirer) e
write_stays w x g now y (Closes job token has e) = ap (λ (v : World). v.work.expirer) e
write_stays w x g now y (Forgets job τ has abandons e) = ap (λ (v : World). v.work.expirer) e
write_stays w x g now y (TellsKept s has e) = ap (λ (v : World). v.work.expirer) e
write_stays w x g now y (TellsFailed s has e) = ap (λ (v : World). v.work.expirer) e

-- an expirer that forgot has the fronts that it had, or begins again
forgotten_go : (w : Terms) (x : World) (shard now : ℕ) (fronts : List Passed) (left : ℕ)
    → fronts_read x.work.expirer ≡ fronts → (y : World) → y ≡ forgotten w x shard now fronts left
    → Fronts_go w x y
forgotten_go w x shard now fronts zero had y e =
    None_read (ap (λ (v : World). fronts_read v.work.expirer) e)
forgotten_go w x shard now fronts (suc left) had y e =
    Same (ap (λ (v : World). fronts_read v.work.expirer) e ∙ sym had)

-- an Expire, by what it reads
front_go : (w : Terms) (x : World) (shard now : ℕ) (fronts : List Passed) (next : Option Buffer)
    → slice_get w.buffers (length fronts) ≡ next → fronts_read x.work.expirer ≡ fronts
    → (y : World) → y ≡ reads_front w x shard now fronts next → Fronts_go w x y
front_go w x shard now fronts (Some buffer) there had y e =
    One_more (length fronts) buffer there
    (ap (λ (v : World). fronts_read v.work.expirer) e
    ∙ ap (λ (list : List Passed). list ++ passed_of w x.state buffer ∷ []) (sym had))
    (ap (λ (v : World). v.state) e)
front_go w x shard now fronts None there had y e =
    forgotten_go w x shard now fronts 15 had y e

-- an Expire
expired_go : (w : Terms) (x : World) (shard now : ℕ) (expirer : Expirer)
    → fronts_read x.work.expirer ≡ fronts_read expirer → (y : World)
    → y ≡ expired w x shard now expirer → Fronts_go w x y
expired_go w x shard now (world.Reading fronts) had y e =
    front_go w x shard now fronts (slice_get w.buffers (length fronts)) refl had y e
expired_go w x shard now (Forgetting fronts left) had y e =
    forgotten_go w x shard now fronts (left - 1) had y e

-- a Restart
restart_go : (w : Terms) (x : World) (output : Output) (y : World) → Restarts w x output y
    → Fronts_go w x y
restart_go w x output y (IsBusy id busy said e) = stays w x y x e refl
restart_go w x output y (HasNoRoom failures rises said e) = stays w x y _ e refl
restart_go w x output y (HasNot i buffer failures there idle failed said e) =
    stays w x y _ e refl
restart_go w x output y (run.IsDone failures idle rises said e) =
    None_read (ap (λ (v : World). fronts_read v.work.expirer) e)

-- an event that isn't refused
does_go : (w : Terms) (x : World) (event : Event) (output : Output) (y : World)
    → Does w x event output y → Fronts_go w x y
does_go w x (Open s peer) output y does = stays w x y _ does.1 refl
does_go w x (Bytes s piece) output y does = stays w x y _ does.3 refl
does_go w x (Turn s now) output y turn =
    stays w x y _ turn.after
    (shared_stays w x s now turn.due.ask turn.answer turn.between turn.shares)
does_go w x (Write g now) output y does = Same (ap fronts_read (write_stays w x g now y does.1))
does_go w x (Break s) output y does = stays w x y _ does.3 refl
does_go w x (Expire shard now) output y does =
    expired_go w x shard now x.work.expirer refl y does.1
does_go w x Restart output y does = restart_go w x output y does

-- each step
step_go : (w : Terms) (x : World) (event : Event) (output : Output) (y : World)
    → Step w x event output y → Fronts_go w x y
step_go w x event output y (IsRefused fault is said e) = stays w x y x e refl
step_go w x event output y (WantsMemory takes said e) = stays w x y x e refl
step_go w x event output y (IsDone free does) = does_go w x event output y does

-- a front that was read is behind that of its buffer later on too
read_later : (w : Terms) → IsSound w → (x y : World) → Moves w x.state y.state → IsSized w x.state
    → (one : Passed) → IsReadFront w x.state one → IsReadFront w y.state one
read_later w sound x y move sized one is = record {
  index = is.index;
  buffer = is.buffer;
  there = is.there;
  number = is.number;
  blocks = is.blocks;
  past =
      le_trans is.past
      (front_rises w sound x.state y.state move sized is.buffer.number is.buffer
      (named_there w sound is.index is.buffer is.there));
}

-- each step keeps that the fronts are read
pub fronts_kept : (w : Terms) → IsSound w → (x : World) (event : Event) (output : Output)
    (y : World) → IsWell w x → Step w x event output y → FrontsAreRead w x → FrontsAreRead w y
fronts_kept w sound x event output y well step fronts =
    by (step_go w x event output y step)
  where
    later : All (IsReadFront w y.state) (fronts_read x.work.expirer)
    later =
        All-weaker (IsReadFront w x.state) (IsReadFront w y.state)
        (read_later w sound x y (step_moves w x event output y step) well.sized)
        (fronts_read x.work.expirer) fronts

    by : Fronts_go w x y → FrontsAreRead w y
    by (Same same) = subst (All (IsReadFront w y.state)) (sym same) later
    by (None_read none) =
        subst (All (IsReadFront w y.state)) (sym none) (All-nil (IsReadFront w y.state))
    by (One_more k buffer there more state) =
        subst (All (IsReadFront w y.state)) (sym more)
        (All-push (IsReadFront w y.state) (fronts_read x.work.expirer) (passed_of w x.state buffer)
        later
        (record {
          index = k;
          buffer = buffer;
          there = there;
          number = refl;
          blocks = refl;
          past =
              subst (λ (σ : State). front_of w x.state buffer ≤ front_of w σ buffer) (sym state)
              (le_refl (front_of w x.state buffer));
        }))

-- nothing is read at the beginning
pub fronts_begin : (w : Terms) (failures : ℕ → ℕ) → FrontsAreRead w (empty_world failures)
fronts_begin w failures = All-nil (IsReadFront w (empty_world failures).state)

-- so it holds after each run from the beginning
pub fronts_always : (w : Terms) → IsSound w → Always w (FrontsAreRead w)
fronts_always w sound =
    always_keeps w sound (FrontsAreRead w) (fronts_kept w sound) (fronts_begin w)

-- what a step after such a run forgets is gone
pub always_gone : (w : Terms) → IsSound w → Always w (ForgetsGone w)
always_gone w sound failures events outputs x ran event output y id token moment step stored ends =
    by (step_gone w sound x y event output id token moment
    (fronts_always w sound failures events outputs x ran) step stored)
  where
    by : (y.state.claim id ≡ Stored token moment) ⊎ IsGoneToken w x.state token
        → IsGoneToken w x.state token
    by (inl same) = absurd (ends same)
    by (inr gone) = gone

-- what an Expire forgets is gone
pub expire_gone : (w : Terms) (x y : World) (shard now : ℕ) (output : Output) (id : List ℕ)
    (token : Token) (moment : ℕ) → IsSound w → FrontsAreRead w x
    → Step w x (Expire shard now) output y → x.state.claim id ≡ Stored token moment
    → y.state.claim id ≡ Unknown → IsGoneToken w x.state token
expire_gone w x y shard now output id token moment sound fronts step stored unknown =
    by (step_gone w sound x y (Expire shard now) output id token moment fronts step stored)
  where
    by : (y.state.claim id ≡ Stored token moment) ⊎ IsGoneToken w x.state token
        → IsGoneToken w x.state token
    by (inl same) = absurd (cc)
    by (inr gone) = gone

-- the fronts are read, and the id is stored still or its article is gone
record Until_gone (w : Terms) (id : List ℕ) (token : Token) (moment : ℕ) (x : World)
    : Type 0 where
  fronts : FrontsAreRead w x
  either : (x.state.claim id ≡ Stored token moment) ⊎ IsGoneToken w x.state token

-- each step keeps that
until_kept : (w : Terms) → IsSound w → (id : List ℕ) (token : Token) (moment : ℕ) (x : World)
    (event : Event) (output : Output) (y : World) → IsWell w x → Step w x event output y
    → Until_gone w id token moment x → Until_gone w id token moment y
until_kept w sound id token moment x event output y well step is = record {
  fronts = fronts_kept w sound x event output y well step is.fronts;
  either = by is.either;
}
  where
    later : IsGoneToken w x.state token → IsGoneToken w y.state token
    later gone =
        gone_stays w sound x well token gone (event ∷ []) (output ∷ []) y (y, step, refl)

    by : (x.state.claim id ≡ Stored token moment) ⊎ IsGoneToken w x.state token
        → (y.state.claim id ≡ Stored token moment) ⊎ IsGoneToken w y.state token
    by (inr gone) = inr (later gone)
    by (inl stored) =
        next (step_gone w sound x y event output id token moment is.fronts step stored)
      where
        next : (y.state.claim id ≡ Stored token moment) ⊎ IsGoneToken w x.state token
            → (y.state.claim id ≡ Stored token moment) ⊎ IsGoneToken w y.state token
        next (inl same) = inl same
        next (inr gone) = inr (later gone)

-- so a stored id stays stored until its article is gone
pub stored_until_gone : (w : Terms) → IsSound w → (x : World) → IsWell w x → FrontsAreRead w x
    → (id : List ℕ) (token : Token) (moment : ℕ) → x.state.claim id ≡ Stored token moment
    → AlwaysFrom w x
    (λ y. (y.state.claim id ≡ Stored token moment → ⊥) → IsGoneToken w y.state token)
stored_until_gone w sound x well fronts id token moment stored events outputs y ran ends =
    by (well_run_keeps w sound (Until_gone w id token moment)
    (until_kept w sound id token moment) x well
    (record { fronts = fronts; either = inl stored }) events outputs y ran).either
  where
    by : (y.state.claim id ≡ Stored token moment) ⊎ IsGoneToken w y.state token
        → IsGoneToken w y.state token
    by (inl same) = absurd (ends same)
    by (inr gone) = gone
