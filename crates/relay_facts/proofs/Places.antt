-- Where the jobs of ids are, in words that speak of a session's hand and not of the session.
use Rattle.std.proofs.Common.{◌≡◌, ◌∙◌, ◌+◌, ◌≤◌, ℕ, Bool, true, false, List, [], ◌∷◌, Option, None}
use Rattle.std.proofs.Common.{Some, All, count_by, cond, refl, sym, ap, subst, arith}
use Rattle.std.proofs.Common.{option_and_then, slice_get}
use Rattle.std.proofs.lemmas.List.Elements.{All-head, All-tail, All-nil, All-cons}
use Rattle.std.proofs.lemmas.List.Sums.{sum_by-cons}
use Rattle.std.proofs.lemmas.Option.{none-some, same_Some}
use Rattle.news_terms.specs.Courses.{place_next}
use Rattle.relay_model.specs.Claims.{Stage, Waiting, Begun, Whole}
use Rattle.relay_model.specs.Claims as claims
use Rattle.relay_model.specs.Invariants.{IsPlaced, IsAt, WaitsAs, is_of, in_hand, in_hand_of}
use Rattle.relay_model.specs.Invariants.{job_at, places_of, may_carry}
use Rattle.relay_model.specs.State.{State, Session, Job}
use Rattle.relay_model.specs.Terms.{Terms}
use Rattle.relay_model.specs.World.{World, Writer, Idle, Popped, Writing, Finished, Failed, Settled}
use Rattle.relay_model.specs.World.{Forgotten}
use Rattle.relay_model.specs.Writers.{staged, job_size, IsWorn, IsHopeless, HasFailedToStore}
use Rattle.relay_model.specs.Writers.{CannotBegin}
use Rattle.relay_facts.proofs.Puts.{is_itself}

-- the job in the hand of a session, where there is one
abbrev pub hand_of : Option Session → Option Job
hand_of None = None
hand_of (Some session) = session.hand

-- a hand is empty in the phases that carry nothing
abbrev pub CarriesAsMay : Option Session → Type 0
CarriesAsMay None = Unit {0}
CarriesAsMay (Some session) = may_carry session.phase ≡ false → session.hand ≡ None

-- the count goes by the hand
pub in_hand_of_is : (id : List ℕ) (o : Option Session) → in_hand_of id o ≡ in_hand id (hand_of o)
in_hand_of_is id None = refl
in_hand_of_is id (Some session) = refl

-- a job in a hand waits
pub hand_waits : (w : Terms) (x : World) → IsPlaced w x → (s : ℕ) (job : Job)
    → hand_of (x.state.session s) ≡ Some job → WaitsAs x.state s job
hand_waits w x p s job e = by (x.state.session s) refl e
  where
    by : (o : Option Session) → x.state.session s ≡ o → hand_of o ≡ Some job → WaitsAs x.state s job
    by None there e = absurd (none-some job e)
    by (Some session) there e = p.hand s session job there e

-- each session carries as it may
pub carries : (w : Terms) (x : World) → IsPlaced w x → (s : ℕ) → CarriesAsMay (x.state.session s)
carries w x p s = by (x.state.session s) refl
  where
    by : (o : Option Session) → x.state.session s ≡ o → CarriesAsMay o
    by None there = tt
    by (Some session) there = p.empty s session there

-- the same claim, another state
pub waits_on : (σ τ : State) (s : ℕ) (job : Job) → τ.claim job.id ≡ σ.claim job.id
    → WaitsAs σ s job → WaitsAs τ s job
waits_on σ τ s job e waits = record { of_session = waits.of_session; claimed = e ∙ waits.claimed }

-- a begin is worn by the claim and by what its group began
pub worn_on : (w : Terms) (σ τ : State) (job : Job) → τ.claim job.id ≡ σ.claim job.id
    → τ.begun job.article.group ≡ σ.begun job.article.group → IsWorn w σ job → IsWorn w τ job
worn_on w σ τ job e b worn = record {
  place = worn.place;
  waiting = e ∙ worn.waiting;
  next = ap (λ begun. option_and_then (λ group. place_next group begun (job_size job))
      (slice_get w.groups job.article.group)) b
      ∙ worn.next;
  past = worn.past;
}

-- a job is hopeless in another state with the same claim on it and the same sizes begun
hopeless_on : (w : Terms) (σ τ : State) (job : Job) → τ.claim job.id ≡ σ.claim job.id
    → τ.begun job.article.group ≡ σ.begun job.article.group → IsHopeless w σ job
    → IsHopeless w τ job
hopeless_on w σ τ job e b (HasFailedToStore failed) = HasFailedToStore (e ∙ failed)
hopeless_on w σ τ job e b (CannotBegin worn) = CannotBegin (worn_on w σ τ job e b worn)

-- what a writer's phase says stays where the claim on its job's id stays, and what its group began
pub at_on : (w : Terms) (σ τ : State) (g : ℕ) (writer : Writer)
    → ((job : Job) → job_at writer ≡ Some job → τ.claim job.id ≡ σ.claim job.id)
    → τ.begun g ≡ σ.begun g → IsAt w σ g writer → IsAt w τ g writer
at_on w σ τ g Idle same b at = at
at_on w σ τ g (Popped job) same b at = (at.0, same job refl ∙ at.1)
at_on w σ τ g (Writing job token written) same b at = (at.0, same job refl ∙ at.1, at.2, at.3)
at_on w σ τ g (Finished job token) same b at = (at.0, same job refl ∙ at.1)
at_on w σ τ g (Failed job (Some token)) same b at = (at.0, same job refl ∙ at.1)
at_on w σ τ g (Failed job None) same b at = (
  at.0,
  hopeless_on w σ τ job (same job refl)
      (subst (λ n. τ.begun n ≡ σ.begun n) (sym at.0) b) at.1,
)
at_on w σ τ g (Settled session) same b at = at
at_on w σ τ g (Forgotten session) same b at = at

-- the id of a writer's job is being stored, for the group
pub record IsStoredFor (σ : State) (g : ℕ) (job : Job) : Type 0 where
  pub stage : Stage
  pub of_group : job.article.group ≡ g
  pub claimed : σ.claim job.id ≡ staged job stage

-- a job that is hopeless is being stored
hopeless_stage : (w : Terms) (σ : State) (g : ℕ) (job : Job) → job.article.group ≡ g
    → IsHopeless w σ job → IsStoredFor σ g job
hopeless_stage w σ g job e (HasFailedToStore failed) =
    record { stage = claims.Failed; of_group = e; claimed = failed }
hopeless_stage w σ g job e (CannotBegin worn) =
    record { stage = Waiting; of_group = e; claimed = worn.waiting }

-- the job of a writer is being stored
pub at_stage : (w : Terms) (σ : State) (g : ℕ) (writer : Writer) (job : Job)
    → job_at writer ≡ Some job
    → IsAt w σ g writer → IsStoredFor σ g job
at_stage w σ g Idle job e at = absurd (none-some job e)
at_stage w σ g (Popped one) job e at =
    subst (IsStoredFor σ g) (same_Some one job e)
    (record { stage = Waiting; of_group = at.0; claimed = at.1 })
at_stage w σ g (Writing one token written) job e at =
    subst (IsStoredFor σ g) (same_Some one job e)
    (record { stage = Begun token; of_group = at.0; claimed = at.1 })
at_stage w σ g (Finished one token) job e at =
    subst (IsStoredFor σ g) (same_Some one job e)
    (record { stage = Whole token; of_group = at.0; claimed = at.1 })
at_stage w σ g (Failed one (Some token)) job e at =
    subst (IsStoredFor σ g) (same_Some one job e)
    (record { stage = claims.Failed; of_group = at.0; claimed = at.1 })
at_stage w σ g (Failed one None) job e at =
    subst (IsStoredFor σ g) (same_Some one job e) (hopeless_stage w σ g one at.0 at.1)
at_stage w σ g (Settled session) job e at = absurd (none-some job e)
at_stage w σ g (Forgotten session) job e at = absurd (none-some job e)

-- what holds of all, with another that holds of all
pub all_also : {X : Type 0} (P Q R : X → Type 0) → ((x : X) → P x → Q x → R x) → (xs : List X)
    → All P xs → All Q xs → All R xs
all_also P Q R both [] p q = All-nil R
all_also P Q R both (x ∷ xs) p q =
    All-cons R x xs (both x (All-head P x xs p) (All-head Q x xs q))
    (all_also P Q R both xs (All-tail P x xs p) (All-tail Q x xs q))

-- each of a list has what follows from what each has
pub all_map : {X : Type 0} (P R : X → Type 0) → ((x : X) → P x → R x) → (xs : List X) → All P xs
    → All R xs
all_map P R to xs p = all_also P P R (λ x one other. to x one) xs p p

-- none of the list passes, where their number is 0
pub none_passes : {X : Type 0} (p : X → Bool) (xs : List X) → count_by p xs ≡ 0
    → All (λ x. p x ≡ false) xs
none_passes p [] e = All-nil (λ x. p x ≡ false)
none_passes p (x ∷ xs) e =
    let total = sum_by-cons (λ y. cond (p y) 1 0) x xs in
    All-cons (λ y. p y ≡ false) x xs (fails (p x) (omega (arith, e, total)))
    (none_passes p xs (omega (arith, e, total)))
  where
    fails : (b : Bool) → cond b 1 0 ≤ 0 → b ≡ false
    fails true few = absurd (omega (arith, few))
    fails false few = refl

-- none of a list passes a test that each fails
pub count_none : {X : Type 0} (p : X → Bool) (xs : List X) → All (λ x. p x ≡ false) xs
    → count_by p xs ≡ 0
count_none p [] fail = refl
count_none p (x ∷ xs) fail =
    sum_by-cons (λ y. cond (p y) 1 0) x xs
    ∙ ap (λ test. cond test 1 0 + count_by p xs) (All-head (λ y. p y ≡ false) x xs fail)
    ∙ ap (λ n. 0 + n) (count_none p xs (All-tail (λ y. p y ≡ false) x xs fail))

-- a job in hand counts for its own id
pub own_hand : (job : Job) (o : Option Job) → o ≡ Some job → in_hand job.id o ≡ 1
own_hand job o e = ap (in_hand job.id) e ∙ ap (λ b. cond b 1 0) (is_itself job.id)

-- and for no other
pub other_hand : (id : List ℕ) (job : Job) → is_of id job ≡ false → in_hand id (Some job) ≡ 0
other_hand id job e = ap (λ b. cond b 1 0) e

-- the same counts where hand, queue and writer's job are the same
pub same_count : (x y : World) (id : List ℕ) (s g : ℕ)
    → hand_of (y.state.session s) ≡ hand_of (x.state.session s)
    → y.work.queue g ≡ x.work.queue g → job_at (y.work.writer g) ≡ job_at (x.work.writer g)
    → places_of y id s g ≡ places_of x id s g
same_count x y id s g hand queue writer =
    let h = in_hand_of_is id (y.state.session s) ∙ ap (in_hand id) hand
    ∙ sym (in_hand_of_is id (x.state.session s)) in
    let q = ap (count_by (is_of id)) queue in
    let v = ap (in_hand id) writer in
    omega (arith, h, q, v)
