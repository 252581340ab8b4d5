-- Write: the steps of a writer that end its job, and all its steps together.
use Rattle.std.proofs.Common.{◌≡◌, ◌∙◌, ◌+◌, ◌++◌, ℕ, List, [], ◌∷◌, None, Some, refl, sym, ap}
use Rattle.std.proofs.Common.{subst, arith}
use Rattle.news_terms.specs.Token.{Token}
use Rattle.relay_model.specs.Claims.{Accepted, Claim, Unknown, Storing, Stored, Stage, Waiting}
use Rattle.relay_model.specs.Claims.{Whole}
use Rattle.relay_model.specs.Claims as claims
use Rattle.relay_model.specs.Invariants.{IsPlaced}
use Rattle.relay_model.specs.Invariants.{IsAt, in_hand, job_at}
use Rattle.relay_facts.proofs.Orderly.{IsOrderly}
use Rattle.relay_model.specs.State.{State, Job, put_at, put_id}
use Rattle.relay_model.specs.Terms.{Terms}
use Rattle.relay_model.specs.World.{World, Writer, Idle, Popped, Writing, Finished, Failed, Settled}
use Rattle.relay_model.specs.World.{Forgotten, IsKept, HasFailed, with_failures}
use Rattle.relay_model.specs.Writers.{Writes, NoJob, Pops, HasBegun, FindsWorn, WritesBlock}
use Rattle.relay_model.specs.Writers.{FailsToWrite, HasStored, Settles, Closes, Forgets, TellsKept}
use Rattle.relay_model.specs.Writers.{TellsFailed, Accepts, Abandons}
use Rattle.relay_model.specs.Writers.{IsHopeless, HasFailedToStore, CannotBegin}
use Rattle.relay_model.specs.Writers.{writer_at, answered, gaining}
use Rattle.relay_facts.proofs.Puts.{put_id_both}
use Rattle.relay_facts.proofs.WriterMoves.{HasJob, steps_on_placed}
use Rattle.relay_facts.proofs.WriterStages.{at_phase, put_claim, popped_orderly, writer_goes_on}
use Rattle.relay_facts.specs.Sound.{IsSound}
use Rattle.relay_facts.proofs.WriterStages.{begun_orderly, failed_orderly, stored_orderly}

-- the id of the job is stored no more, and its writer has no job: all else stays in its place
gone_placed : (w : Terms) (x y : World) (g : ℕ) (job : Job) (before : Stage) (claim : Claim)
    (next : Writer)
    → HasJob x g job before
    → ((id : List ℕ) → y.state.claim id ≡ put_id x.state.claim job.id claim id)
    → ((s : ℕ) (article : Accepted) (stage : Stage) → claim ≡ Storing s article stage → ⊥)
    → ((h : ℕ) → y.state.begun h ≡ x.state.begun h)
    → ((s : ℕ) → y.state.session s ≡ x.state.session s)
    → ((h : ℕ) → y.work.queue h ≡ x.work.queue h)
    → ((h : ℕ) → y.work.writer h ≡ put_at x.work.writer g next h)
    → job_at next ≡ None → IsAt w y.state g next → IsPlaced w x → IsPlaced w y
gone_placed w x y g job before claim next has claims none begun session queue writer idle at
    placed =
    steps_on_placed w x y g job before has (record {
      next = next;
      here = λ s article stage e.
          absurd (none s article stage
          (sym (put_claim x.state job claim) ∙ sym (claims job.id) ∙ e));
      there = λ id e. claims id
          ∙ put_id_both (λ c. c ≡ x.state.claim id) x.state.claim job.id claim id
          (λ same. absurd (cc (same, e))) (λ not. refl);
      no_other = λ id e. ap (in_hand id) idle;
      is_at = at;
      begun = λ h apart. begun h;
      session = session;
      queue = queue;
      writer = writer;
    }) placed

-- what is stored after one id became none that is stored, was stored before
gone_storing : (σ : State) (job : Job) (claim : Claim)
    → ((s : ℕ) (article : Accepted) (stage : Stage) → claim ≡ Storing s article stage → ⊥)
    → (id : List ℕ) (s : ℕ) (article : Accepted) (stage : Stage)
    → put_id σ.claim job.id claim id ≡ Storing s article stage
    → σ.claim id ≡ Storing s article stage
gone_storing σ job claim none id s article stage =
    put_id_both (λ c. c ≡ Storing s article stage → σ.claim id ≡ Storing s article stage) σ.claim
    job.id claim id
    (λ same is. absurd (none s article stage is)) (λ not is. is)

-- it settles the job
pub settled_orderly : (w : Terms) (x : World) (g : ℕ) (job : Job) (token : Token) (now : ℕ)
    (τ : State)
    → x.work.writer g ≡ Finished job token → Accepts x.state job token now τ → IsOrderly w x
    → IsOrderly w (writer_at x τ g (Settled job.session))
settled_orderly w x g job token now τ finished accepts orderly =
    subst (λ ρ. IsOrderly w (writer_at x ρ g (Settled job.session))) (sym accepts.after)
    (record {
      numbered = record { unopened = orderly.numbered.unopened; peer = orderly.numbered.peer };
      placed = gone_placed w x after g job (Whole token) (Stored token now) (Settled job.session)
          (record { has = ap job_at finished; of_group = at.0; claimed = at.1 })
          (λ id. refl) no_storing (λ h. refl) (λ s. refl) (λ h. refl) (λ h. refl) refl tt
          orderly.placed;
      sized = record {
        begun = orderly.sized.begun;
        laid = orderly.sized.laid;
        storing = λ id s article stage e.
            orderly.sized.storing id s article stage
            (gone_storing x.state job (Stored token now) no_storing id s article stage e);
        held_one = orderly.sized.held_one;
        kept = orderly.sized.kept;
      };
    })
  where
    after : World
    after = writer_at x (record x.state {
      claim = put_id x.state.claim job.id (Stored token now);
      feed = gaining x.state.feed job.article.permitted token;
      accepted = x.state.accepted ++ (token, job.article.permitted) ∷ [];
    }) g (Settled job.session)

    no_storing : (s : ℕ) (article : Accepted) (stage : Stage)
        → Stored token now ≡ Storing s article stage → ⊥
    no_storing s article stage e = absurd (cc)

    at : IsAt w x.state g (Finished job token)
    at = at_phase w x orderly g (Finished job token) finished

-- the stage of a job that is hopeless
pub hopeless : (w : Terms) (x : World) (g : ℕ) (job : Job) → x.work.writer g ≡ Failed job None
    → IsOrderly w x
    → (stage : Stage) × HasJob x g job stage
hopeless w x g job failed orderly = by at.0 at.1
  where
    at : IsAt w x.state g (Failed job None)
    at = at_phase w x orderly g (Failed job None) failed

    by : job.article.group ≡ g → IsHopeless w x.state job → (stage : Stage) × HasJob x g job stage
    by group (HasFailedToStore claimed) =
        (claims.Failed, record { has = ap job_at failed; of_group = group; claimed = claimed })
    by group (CannotBegin worn) =
        (Waiting, record { has = ap job_at failed; of_group = group; claimed = worn.waiting })

-- it gives the article up
pub forgotten_orderly : (w : Terms) (x : World) (g : ℕ) (job : Job) (τ : State)
    → x.work.writer g ≡ Failed job None → Abandons w x.state job τ → IsOrderly w x
    → IsOrderly w (writer_at x τ g (Forgotten job.session))
forgotten_orderly w x g job τ failed abandons orderly =
    subst (λ ρ. IsOrderly w (writer_at x ρ g (Forgotten job.session))) (sym abandons.after)
    (record {
      numbered = record { unopened = orderly.numbered.unopened; peer = orderly.numbered.peer };
      placed = gone_placed w x after g job has.0 Unknown (Forgotten job.session) has.1
          (λ id. refl) no_storing (λ h. refl) (λ s. refl) (λ h. refl) (λ h. refl) refl tt
          orderly.placed;
      sized = record {
        begun = orderly.sized.begun;
        laid = orderly.sized.laid;
        storing = λ id s article stage e.
            orderly.sized.storing id s article stage
            (gone_storing x.state job Unknown no_storing id s article stage e);
        held_one = orderly.sized.held_one;
        kept = orderly.sized.kept;
      };
    })
  where
    after : World
    after = writer_at x (record x.state { claim = put_id x.state.claim job.id Unknown }) g
        (Forgotten job.session)

    no_storing : (s : ℕ) (article : Accepted) (stage : Stage) → Unknown ≡ Storing s article stage
        → ⊥
    no_storing s article stage e = absurd (cc)

    has : (stage : Stage) × HasJob x g job stage
    has = hopeless w x g job failed orderly

-- what a Write does from a world in order leads to one
pub write_orderly : (w : Terms) → IsSound w → (x : World) (g now : ℕ) (x' : World)
    → Writes w x g now x' → IsOrderly w x → IsOrderly w x'
write_orderly w sound x g now x' (NoJob idle empty e) orderly = subst (IsOrderly w) (sym e) orderly
write_orderly w sound x g now x' (Pops job rest idle queue e) orderly =
    subst (IsOrderly w) (sym e) (popped_orderly w x g job rest idle queue orderly)
write_orderly w sound x g now x' (HasBegun job token τ has begins e) orderly =
    subst (IsOrderly w) (sym e) (begun_orderly w x g job token τ has begins sound orderly)
write_orderly w sound x g now x' (FindsWorn job has worn e) orderly =
    subst (IsOrderly w) (sym e)
    (writer_goes_on w x (writer_at x x.state g (Failed job None)) g (Failed job None) refl
    (λ h. refl) (λ h. refl)
    (sym (ap job_at has)) (λ at. ((at_phase w x orderly g (Popped job) has).0, CannotBegin worn))
    orderly)
write_orderly w sound x g now x' (WritesBlock job token written failures has left rises e) orderly =
    let next = Writing job token (written + 1) in
    let at = at_phase w x orderly g (Writing job token written) has in
    subst (IsOrderly w) (sym e)
    (writer_goes_on w x (with_failures (writer_at x x.state g next) failures) g next refl
    (λ h. refl) (λ h. refl)
    (sym (ap job_at has)) (λ was. (at.0, at.1, omega (arith, left), at.3)) orderly)
write_orderly w sound x g now x' (FailsToWrite job token written failures τ has left failed fails e)
    orderly =
    subst (IsOrderly w) (sym e)
    (failed_orderly w x g job token written failures τ has fails orderly)
write_orderly w sound x g now x' (HasStored job token written τ has all stores e) orderly =
    subst (IsOrderly w) (sym e) (stored_orderly w x g job token written τ has stores orderly)
write_orderly w sound x g now x' (Settles job token τ has accepts e) orderly =
    subst (IsOrderly w) (sym e) (settled_orderly w x g job token now τ has accepts orderly)
write_orderly w sound x g now x' (Closes job token has e) orderly =
    let at = at_phase w x orderly g (Failed job (Some token)) has in
    subst (IsOrderly w) (sym e)
    (writer_goes_on w x (writer_at x x.state g (Failed job None)) g (Failed job None) refl
    (λ h. refl) (λ h. refl)
    (sym (ap job_at has)) (λ was. (at.0, HasFailedToStore at.1)) orderly)
write_orderly w sound x g now x' (Forgets job τ has abandons e) orderly =
    subst (IsOrderly w) (sym e) (forgotten_orderly w x g job τ has abandons orderly)
write_orderly w sound x g now x' (TellsKept s has e) orderly =
    subst (IsOrderly w) (sym e)
    (writer_goes_on w x (answered x g s IsKept) g Idle refl (λ h. refl) (λ h. refl)
    (sym (ap job_at has)) (λ was. tt) orderly)
write_orderly w sound x g now x' (TellsFailed s has e) orderly =
    subst (IsOrderly w) (sym e)
    (writer_goes_on w x (answered x g s HasFailed) g Idle refl (λ h. refl) (λ h. refl)
    (sym (ap job_at has)) (λ was. tt) orderly)
