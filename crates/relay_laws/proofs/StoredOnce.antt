-- Stored once: in a run that doesn't forget it, a message-id has the texts that its claim says.
use Rattle.std.proofs.Common.{◌≡◌, ◌∙◌, ℕ, ◌+◌, ◌≤◌, true, List, [], ◌∷◌, ◌++◌, bytes_eq}
use Rattle.std.proofs.Common.{count_by, cond, refl, sym, ap, subst, add-zero, le_of_eq, zero-le}
use Rattle.std.proofs.Common.{le_refl, le_trans, true≢false}
use Rattle.std.proofs.lemmas.List.Sums.{sum_by_push}
use Rattle.relay_model.specs.Claims.{Claim, Unknown, Offered, Storing, Stored, Refused, Stage}
use Rattle.relay_model.specs.Claims.{Waiting, Begun, Failed, Whole}
use Rattle.relay_model.specs.Run.{Event}
use Rattle.relay_model.specs.State.{State, Job, Kept, put_id}
use Rattle.relay_model.specs.Terms.{Terms}
use Rattle.relay_model.specs.World.{World, Output, empty_world}
use Rattle.relay_model.specs.Writers.{IsHopeless, HasFailedToStore, CannotBegin}
use Rattle.relay_facts.proofs.Puts.{put_id_both, same_id}
use Rattle.relay_laws.specs.Laws.{texts_of, is_remembered, RunRemembering}
use Rattle.relay_facts.proofs.ClaimMoves.{ClaimGoes, Stays, IsEarly, IsForgotten, is_early}
use Rattle.relay_facts.proofs.Moves.{Moves, step_moves}
use Rattle.relay_facts.proofs.Moves as moves

-- how many texts a message-id at this stage has
abbrev pub texts_at_stage : Stage → ℕ
texts_at_stage Waiting = 0
texts_at_stage (Begun token) = 0
texts_at_stage Failed = 0
texts_at_stage (Whole token) = 1

-- how many texts a message-id with this claim has: one from the moment on that it is whole
abbrev pub texts_due : Claim → ℕ
texts_due Unknown = 0
texts_due (Offered session since) = 0
texts_due (Storing session article stage) = texts_at_stage stage
texts_due (Stored token moment) = 1
texts_due (Refused moment) = 0

-- the id has the texts that its claim says
abbrev pub IsDue : List ℕ → State → Type 0
IsDue id σ = texts_of id σ ≡ texts_due (σ.claim id)

-- an early claim has no text
early_due : (claim : Claim) → is_early claim ≡ true → texts_due claim ≡ 0
early_due Unknown e = refl
early_due (Offered session since) e = refl
early_due (Storing session article Waiting) e = refl
early_due (Storing session article (Begun token)) e = absurd (true≢false (sym e))
early_due (Storing session article Failed) e = absurd (true≢false (sym e))
early_due (Storing session article (Whole token)) e = absurd (true≢false (sym e))
early_due (Stored token moment) e = absurd (true≢false (sym e))
early_due (Refused moment) e = refl

-- a claim that goes on, and isn't forgotten, has as many texts
goes_due : (before after : Claim)
    → (is_remembered before ≡ true → is_remembered after ≡ true) → ClaimGoes before after
    → texts_due after ≡ texts_due before
goes_due before after remembers (Stays e) = ap texts_due e
goes_due before after remembers (IsEarly one other timed) =
    early_due after other ∙ sym (early_due before one)
goes_due before after remembers (IsForgotten token moment was is) =
    absurd (true≢false (sym (remembers (ap is_remembered was)) ∙ ap is_remembered is))

-- one id's claim changes to one with as many texts
put_due : (σ : State) (id other : List ℕ) (new : Claim) → texts_due new ≡ texts_due (σ.claim other)
    → IsDue id σ → texts_of id σ ≡ texts_due (put_id σ.claim other new id)
put_due σ id other new same due =
    put_id_both (λ c. texts_of id σ ≡ texts_due c) σ.claim other new id
    (λ e. due ∙ ap (λ y. texts_due (σ.claim y)) (same_id id other e) ∙ sym same) (λ e. due)

-- a text joins those kept where its claim had none and has one now
joins_due : (σ : State) (id : List ℕ) (one : Kept) (new : Claim)
    → texts_due (σ.claim one.id) ≡ 0 → texts_due new ≡ 1 → IsDue id σ
    → count_by (λ (kept : Kept). bytes_eq id kept.id) (σ.kept ++ one ∷ [])
    ≡ texts_due (put_id σ.claim one.id new id)
joins_due σ id one new none has due =
    sum_by_push (λ (k : Kept). cond (bytes_eq id k.id) 1 0) σ.kept one
    ∙ put_id_both (λ c. texts_of id σ + cond (bytes_eq id one.id) 1 0 ≡ texts_due c) σ.claim one.id
    new id
    (λ e. ap (λ n. n + cond (bytes_eq id one.id) 1 0)
    (due ∙ ap (λ y. texts_due (σ.claim y)) (same_id id one.id e) ∙ none)
    ∙ ap (λ test. 0 + cond test 1 0) e ∙ sym has)
    (λ e. ap (λ test. texts_of id σ + cond test 1 0) e ∙ add-zero (texts_of id σ) ∙ due)

-- a hopeless job has no text
hopeless_due : (w : Terms) (σ : State) (job : Job) → IsHopeless w σ job
    → texts_due (σ.claim job.id) ≡ 0
hopeless_due w σ job (HasFailedToStore claimed) = ap texts_due claimed
hopeless_due w σ job (CannotBegin worn) = ap texts_due worn.waiting

-- each move that remembers the id keeps its texts due
pub due_kept : (w : Terms) (id : List ℕ) (σ τ : State) → Moves w σ τ
    → (is_remembered (σ.claim id) ≡ true → is_remembered (τ.claim id) ≡ true) → IsDue id σ
    → IsDue id τ
due_kept w id σ τ (moves.LeavesStore same) remembers due =
    ap (λ kept. count_by (λ (one : Kept). bytes_eq id one.id) kept) same.kept ∙ due
    ∙ sym (goes_due (σ.claim id) (τ.claim id) remembers (same.claims id))
due_kept w id σ τ (moves.Begun job token begins) remembers due =
    subst (IsDue id) (sym begins.after)
    (put_due σ id job.id _ (sym (ap texts_due begins.waiting)) due)
due_kept w id σ τ (moves.Stored job token stores) remembers due =
    subst (IsDue id) (sym stores.after)
    (joins_due σ id (record { token = token; id = job.id; text = job.article.text }) _
    (ap texts_due stores.begun) refl due)
due_kept w id σ τ (moves.Failed job token fails) remembers due =
    subst (IsDue id) (sym fails.after)
    (put_due σ id job.id _ (sym (ap texts_due fails.begun)) due)
due_kept w id σ τ (moves.Accepted job token now timed accepts) remembers due =
    subst (IsDue id) (sym accepts.after)
    (put_due σ id job.id _ (sym (ap texts_due accepts.whole)) due)
due_kept w id σ τ (moves.Abandoned job abandons) remembers due =
    subst (IsDue id) (sym abandons.after)
    (put_due σ id job.id Unknown (sym (hopeless_due w σ job abandons.hopeless)) due)

-- a claim has at most one text
pub at_most_one : (claim : Claim) → texts_due claim ≤ 1
at_most_one Unknown = zero-le
at_most_one (Offered session since) = zero-le
at_most_one (Storing session article Waiting) = zero-le
at_most_one (Storing session article (Begun token)) = zero-le
at_most_one (Storing session article Failed) = zero-le
at_most_one (Storing session article (Whole token)) = le_refl 1
at_most_one (Stored token moment) = le_refl 1
at_most_one (Refused moment) = zero-le

-- after each such run the id has the texts that its claim says
pub run_due : (w : Terms) (id : List ℕ) (x : World) (events : List Event) (outputs : List Output)
    (x' : World) → RunRemembering id w x events outputs x' → IsDue id x.state → IsDue id x'.state
run_due w id x [] [] x' run due = subst (λ (y : World). IsDue id y.state) (sym run) due
run_due w id x (event ∷ events) (output ∷ outputs) x' run due =
    run_due w id run.0 events outputs x' run.3
    (due_kept w id x.state (run.0).state (step_moves w x event output run.0 run.1) run.2 due)
run_due w id x [] (output ∷ outputs) x' run due = absurd run
run_due w id x (event ∷ events) [] x' run due = absurd run

-- so it has at most one
pub stored_once : (w : Terms) (failures : ℕ → ℕ) (id : List ℕ) (events : List Event)
    (outputs : List Output) (x : World)
    → RunRemembering id w (empty_world failures) events outputs x → texts_of id x.state ≤ 1
stored_once w failures id events outputs x run =
    le_trans (le_of_eq (run_due w id (empty_world failures) events outputs x run refl))
    (at_most_one (x.state.claim id))
