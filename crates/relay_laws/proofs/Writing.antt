-- A Write, computed where no device fails.
use Rattle.std.proofs.Common.{◌≡◌, ℕ, Bool, true, false, nat_lt, nat_le, List}
use Rattle.std.proofs.Common.{[], ◌∷◌, Option, Some, None, refl, le_refl}
use Rattle.std.proofs.lemmas.Bool.{leb-true, leb-false, ltb-true, cond_both}
use Rattle.news_terms.specs.Places.{Place, last_cycle}
use Rattle.news_terms.specs.Token.{Token}
use Rattle.relay_model.specs.Claims.{Waiting, Begun, Whole}
use Rattle.relay_model.specs.State.{Job}
use Rattle.relay_model.specs.Terms.{Terms}
use Rattle.relay_model.specs.World.{World, Writer, Idle, Popped, Writing, Finished, Settled}
use Rattle.relay_model.specs.World.{Forgotten}
use Rattle.relay_model.specs.World as world
use Rattle.relay_model.specs.Writers.{Writes, NoJob, Pops, HasBegun, FindsWorn, WritesBlock}
use Rattle.relay_model.specs.Writers.{HasStored, Settles, Closes, Forgets, TellsKept, TellsFailed}
use Rattle.relay_model.specs.Writers.{IsHopeless, job_size, place_for, token_at, staged}
use Rattle.relay_laws.proofs.Premises.{Premise, Free, Needs, Both, IsMet}
use Rattle.relay_laws.proofs.OneWrite.{after_pop, after_place, after_write}

-- the job waits, and whether its cycle is one that there is
abbrev cycle_premise : World → Job → Place → Bool → Premise
cycle_premise x job place in_time =
    Both (Needs (x.state.claim job.id ≡ staged job Waiting))
    (Needs (nat_le place.cycle last_cycle ≡ in_time))

-- by the place of the job
abbrev place_premise : World → Job → Option Place → Premise
place_premise x job None = Needs ⊥
place_premise x job (Some place) = cycle_premise x job place (nat_le place.cycle last_cycle)

-- blocks are left, or the job is begun and all are written
abbrev blocks_premise : World → Job → Token → ℕ → Bool → Premise
blocks_premise x job token written true = Free
blocks_premise x job token written false =
    Both (Needs (written ≡ job_size job)) (Needs (x.state.claim job.id ≡ staged job (Begun token)))

-- what has to be known of a Write by the phase of the writer
abbrev pub write_premise : Terms → World → Writer → Premise
write_premise w x Idle = Free
write_premise w x (Popped job) = place_premise x job (place_for w x.state job)
write_premise w x (Writing job token written) =
    blocks_premise x job token written (nat_lt written (job_size job))
write_premise w x (Finished job token) = Needs (x.state.claim job.id ≡ staged job (Whole token))
write_premise w x (world.Failed job (Some token)) = Free
write_premise w x (world.Failed job None) = Needs (IsHopeless w x.state job)
write_premise w x (Settled s) = Free
write_premise w x (Forgotten s) = Free

-- a pop, or no job
pops : (w : Terms) (x : World) (g now : ℕ) → x.work.writer g ≡ Idle → (queue : List Job)
    → x.work.queue g ≡ queue → Writes w x g now (after_pop x g queue)
pops w x g now idle [] is = NoJob idle is refl
pops w x g now idle (job ∷ rest) is = Pops job rest idle is refl

-- a begin at this place, or one that is worn
begins_at : (w : Terms) (x : World) (g now : ℕ) (job : Job) → x.work.writer g ≡ Popped job
    → (place : Place) → place_for w x.state job ≡ Some place → (in_time : Bool)
    → IsMet (cycle_premise x job place in_time)
    → Writes w x g now (after_place w x g job (Some place))
begins_at w x g now job has place is true knows =
    rw knows.1 (HasBegun job (token_at job place) _ has (record {
      place = place;
      waiting = knows.0;
      next = is;
      in_time = leb-true place.cycle last_cycle knows.1;
      named = refl;
      after = refl;
    }) refl)
begins_at w x g now job has place is false knows =
    rw knows.1 (FindsWorn job has (record {
      place = place;
      waiting = knows.0;
      next = is;
      past = leb-false place.cycle last_cycle knows.1;
    }) refl)

-- a begin
begins : (w : Terms) (x : World) (g now : ℕ) (job : Job) → x.work.writer g ≡ Popped job
    → (place : Option Place) → place_for w x.state job ≡ place → IsMet (place_premise x job place)
    → Writes w x g now (after_place w x g job place)
begins w x g now job has None is knows = absurd knows
begins w x g now job has (Some place) is knows =
    begins_at w x g now job has place is (nat_le place.cycle last_cycle) knows

-- a block, or the end
writes_on : (w : Terms) (x : World) (g now : ℕ) (job : Job) (token : Token) (written : ℕ)
    → x.work.writer g ≡ Writing job token written → (less : Bool)
    → nat_lt written (job_size job) ≡ less → IsMet (blocks_premise x job token written less)
    → Writes w x g now (after_write w x g now (Writing job token written))
writes_on w x g now job token written has true less knows =
    rw less (WritesBlock job token written x.work.failures has
    (ltb-true written (job_size job) less) (λ buffer. le_refl (x.work.failures buffer)) refl)
writes_on w x g now job token written has false less knows =
    rw less (HasStored job token written _ has knows.0
    (record { begun = knows.1; after = refl }) refl)

-- the Write may go so
pub writes : (w : Terms) (x : World) (g now : ℕ) (phase : Writer) → x.work.writer g ≡ phase
    → IsMet (write_premise w x phase) → Writes w x g now (after_write w x g now phase)
writes w x g now Idle has knows = pops w x g now has (x.work.queue g) refl
writes w x g now (Popped job) has knows =
    begins w x g now job has (place_for w x.state job) refl knows
writes w x g now (Writing job token written) has knows =
    writes_on w x g now job token written has (nat_lt written (job_size job)) refl knows
writes w x g now (Finished job token) has knows =
    Settles job token _ has (record { whole = knows; after = refl }) refl
writes w x g now (world.Failed job (Some token)) has knows = Closes job token has refl
writes w x g now (world.Failed job None) has knows =
    Forgets job _ has (record { hopeless = knows; after = refl }) refl
writes w x g now (Settled s) has knows = TellsKept s has refl
writes w x g now (Forgotten s) has knows = TellsFailed s has refl

-- a pop calls no device
pop_calm : (x : World) (g : ℕ) (queue : List Job)
    → (after_pop x g queue).work.failures ≡ x.work.failures
pop_calm x g [] = refl
pop_calm x g (job ∷ rest) = refl

-- a begin calls none
begin_calm : (w : Terms) (x : World) (g : ℕ) (job : Job) (place : Option Place)
    → (after_place w x g job place).work.failures ≡ x.work.failures
begin_calm w x g job None = refl
begin_calm w x g job (Some place) =
    cond_both (nat_le place.cycle last_cycle) _ _
    (λ (y : World). y.work.failures ≡ x.work.failures) (λ e. refl) (λ e. refl)

-- no device fails in it
pub write_calm : (w : Terms) (x : World) (g now : ℕ) (phase : Writer)
    → (after_write w x g now phase).work.failures ≡ x.work.failures
write_calm w x g now Idle = pop_calm x g (x.work.queue g)
write_calm w x g now (Popped job) = begin_calm w x g job (place_for w x.state job)
write_calm w x g now (Writing job token written) =
    cond_both (nat_lt written (job_size job)) _ _
    (λ (y : World). y.work.failures ≡ x.work.failures) (λ e. refl) (λ e. refl)
write_calm w x g now (Finished job token) = refl
write_calm w x g now (world.Failed job (Some token)) = refl
write_calm w x g now (world.Failed job None) = refl
write_calm w x g now (Settled s) = refl
write_calm w x g now (Forgotten s) = refl
