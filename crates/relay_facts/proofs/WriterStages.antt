-- Write: the steps of a writer that keep its job, one lemma for each.
use Rattle.std.proofs.Common.{◌≡◌, ◌∙◌, ◌++◌, ℕ, List, [], ◌∷◌, Some, All, refl, sym, ap}
use Rattle.std.proofs.Common.{subst, arith}
use Rattle.std.proofs.lemmas.List.Elements.{All-append, All-cons, All-nil}
use Rattle.std.proofs.lemmas.Option.{same_Some}
use Rattle.news_terms.specs.Courses.{Course, place_next}
use Rattle.news_terms.specs.Fronts.{FitsGroup}
use Rattle.news_terms.specs.Places.{Extent, Group}
use Rattle.news_terms.specs.Token.{Token}
use Rattle.std.specs.Prelude.{option_and_then, slice_get}
use Rattle.relay_model.specs.Claims.{Accepted, Claim, Storing, Stage, Waiting}
use Rattle.relay_model.specs.Claims.{Begun, Whole}
use Rattle.relay_model.specs.Claims as claims
use Rattle.relay_model.specs.Invariants.{IsNumbered, IsPlaced, IsSized, IsSoundArticle, IsKeptRight}
use Rattle.relay_model.specs.Invariants.{IsAt, in_hand, job_at}
use Rattle.relay_facts.proofs.Orderly.{IsOrderly}
use Rattle.relay_model.specs.State.{State, Kept, Job, put_at, put_id}
use Rattle.relay_model.specs.Terms.{Terms}
use Rattle.relay_model.specs.World.{World, Writer, Idle, Popped, Writing, Finished, Failed}
use Rattle.relay_model.specs.World.{with_failures}
use Rattle.relay_model.specs.Writers.{Begins, Stores, Fails}
use Rattle.relay_model.specs.Writers.{staged, with_stage}
use Rattle.relay_model.specs.Writers.{begun_in, job_size, popped, writer_at}
use Rattle.relay_facts.proofs.Places.{hand_of, CarriesAsMay, carries, other_hand}
use Rattle.relay_facts.specs.Sound.{IsSound}
use Rattle.relay_facts.proofs.LaidCourses.{begun_in_articles, laid_begun}
use Rattle.relay_facts.proofs.Pops.{popped_placed}
use Rattle.relay_facts.proofs.Puts.{put_at_both, put_at_there, put_id_both, is_itself}
use Rattle.relay_facts.proofs.SessionOrderly.{FitsOne}
use Rattle.relay_facts.proofs.Unmoved.{alike, unmoved_placed}
use Rattle.relay_facts.proofs.WriterMoves.{HasJob, steps_on_placed}

-- it takes the oldest job
pub popped_orderly : (w : Terms) (x : World) (g : ℕ) (job : Job) (rest : List Job)
    → x.work.writer g ≡ Idle → x.work.queue g ≡ job ∷ rest → IsOrderly w x
    → IsOrderly w (popped x g job rest)
popped_orderly w x g job rest idle queue orderly = record {
  numbered = orderly.numbered;
  placed = popped_placed w x g job rest idle queue orderly.placed;
  sized = orderly.sized;
}

-- what the writer of g goes on to, no claim being changed: with the same job or none
pub writer_goes_on : (w : Terms) (x y : World) (g : ℕ) (next : Writer)
    → y.state ≡ x.state → ((h : ℕ) → y.work.queue h ≡ x.work.queue h)
    → ((h : ℕ) → y.work.writer h ≡ put_at x.work.writer g next h)
    → job_at next ≡ job_at (x.work.writer g)
    → (IsAt w x.state g (x.work.writer g) → IsAt w x.state g next)
    → IsOrderly w x → IsOrderly w y
writer_goes_on w x y g next state queue writer job at orderly = record {
  numbered = subst (IsNumbered w) (sym state) orderly.numbered;
  placed = unmoved_placed w x y (record {
    claims = alike x.state y.state (λ id. ap (λ (σ : State). σ.claim id) state);
    begun = λ h. ap (λ (σ : State). σ.begun h) state;
    hand = λ s. ap (λ (σ : State). hand_of (σ.session s)) state;
    carries = λ s. subst CarriesAsMay (ap (λ (σ : State). σ.session s) (sym state))
        (carries w x orderly.placed s);
    queue = queue;
    job = λ h. ap job_at (writer h)
        ∙ put_at_both (λ v. job_at v ≡ job_at (x.work.writer h)) x.work.writer g next h
        (λ e. job ∙ ap (λ n. job_at (x.work.writer n)) (sym e)) (λ apart. refl);
    writer = λ h was. subst (IsAt w x.state h) (sym (writer h))
        (put_at_both (IsAt w x.state h) x.work.writer g next h
        (λ e. subst (λ n. IsAt w x.state n next) (sym e)
        (at (subst (λ n. IsAt w x.state n (x.work.writer n)) e was)))
        (λ apart. was));
  }) orderly.placed;
  sized = subst (IsSized w) (sym state) orderly.sized;
}

-- what a writer's phase says, once it is known
pub at_phase : (w : Terms) (x : World) → IsOrderly w x → (g : ℕ) (v : Writer) → x.work.writer g ≡ v
    → IsAt w x.state g v
at_phase w x orderly g v e = subst (IsAt w x.state g) e (orderly.placed.writer g)

-- the state with another stage of the job's id, and with what else a step of its writer may change
pub record Stages (w : Terms) (σ τ : State) (g : ℕ) (job : Job) (stage : Stage) : Type 0 where
  pub claim : (id : List ℕ) → τ.claim id ≡ put_id σ.claim job.id (staged job stage) id
  pub begun : (h : ℕ) → (h ≡ g → ⊥) → τ.begun h ≡ σ.begun h
  pub session : (s : ℕ) → τ.session s ≡ σ.session s
  pub newest : τ.newest ≡ σ.newest

-- the claim that was put on a job's id
pub put_claim : (σ : State) (job : Job) (claim : Claim) → put_id σ.claim job.id claim job.id ≡ claim
put_claim σ job claim =
    put_id_both (λ c. c ≡ claim) σ.claim job.id claim job.id
    (λ same. refl) (λ not. absurd (cc (not, is_itself job.id)))

-- the claim on a job's id once it is at a stage
own_claim : (σ : State) (job : Job) (stage : Stage)
    → put_id σ.claim job.id (staged job stage) job.id ≡ staged job stage
own_claim σ job stage = put_claim σ job (staged job stage)

-- the claim of a job at another stage keeps all in one place
stage_placed : (w : Terms) (x y : World) (g : ℕ) (job : Job) (before after : Stage) (next : Writer)
    → HasJob x g job before → Stages w x.state y.state g job after
    → ((h : ℕ) → y.work.queue h ≡ x.work.queue h)
    → ((h : ℕ) → y.work.writer h ≡ put_at x.work.writer g next h)
    → job_at next ≡ Some job → IsAt w y.state g next → IsPlaced w x → IsPlaced w y
stage_placed w x y g job before after next has stages queue writer still at placed =
    steps_on_placed w x y g job before has (record {
      next = next;
      here = λ s article stage e.
          is s article stage (sym (own_claim x.state job after) ∙ sym (stages.claim job.id) ∙ e);
      there = λ id e. stages.claim id
          ∙ put_id_both (λ c. c ≡ x.state.claim id) x.state.claim job.id (staged job after) id
          (λ same. absurd (cc (same, e))) (λ not. refl);
      no_other = λ id e. ap (in_hand id) still ∙ other_hand id job e;
      is_at = at;
      begun = stages.begun;
      session = stages.session;
      queue = queue;
      writer = writer;
    }) placed
  where
    is : (s : ℕ) (article : Accepted) (stage : Stage) → staged job after ≡ Storing s article stage
        → (s ≡ job.session) × (article ≡ job.article) × (job_at next ≡ Some job)
    is s article stage same = (cc, cc, still)

-- an id that is stored at another stage has the article that it had
stage_storing : (w : Terms) (σ τ : State) (job : Job) (before after : Stage)
    → σ.claim job.id ≡ staged job before
    → ((id : List ℕ) → τ.claim id ≡ put_id σ.claim job.id (staged job after) id)
    → IsSized w σ → (id : List ℕ) (s : ℕ) (article : Accepted) (stage : Stage)
    → τ.claim id ≡ Storing s article stage → IsSoundArticle w article
stage_storing w σ τ job before after claimed claim sized id s article stage e =
    put_id_both (λ c. c ≡ Storing s article stage → IsSoundArticle w article) σ.claim job.id
    (staged job after) id
    (λ same is. subst (IsSoundArticle w) (articles is)
    (sized.storing job.id job.session job.article before claimed))
    (λ not is. sized.storing id s article stage is)
    (sym (claim id) ∙ e)
  where
    articles : staged job after ≡ Storing s article stage → job.article ≡ article
    articles same = cc

-- it begins the job
pub begun_orderly : (w : Terms) (x : World) (g : ℕ) (job : Job) (token : Token) (τ : State)
    → x.work.writer g ≡ Popped job → Begins w x.state job token τ → IsSound w → IsOrderly w x
    → IsOrderly w (writer_at x τ g (Writing job token 0))
begun_orderly w x g job token τ took begins known orderly =
    subst (λ ρ. IsOrderly w (writer_at x ρ g (Writing job token 0))) (sym begins.after)
    (record {
      numbered = record { unopened = orderly.numbered.unopened; peer = orderly.numbered.peer };
      placed = stage_placed w x after g job Waiting (Begun token) (Writing job token 0) has
          (record {
            claim = λ id. refl;
            begun = λ h apart. put_at_there x.state.begun job.article.group course h
                (λ e. apart (e ∙ at.0));
            session = λ s. refl;
            newest = refl;
          })
          (λ h. refl) (λ h. refl) refl (
            at.0,
            own_claim x.state job (Begun token),
            omega arith,
            ap (λ (t : Token). t.length)
                begins.named,
          ) orderly.placed;
      sized = record {
        begun = λ h group there.
            put_at_both (λ (one : Course). All (FitsOne group) one.articles) x.state.begun
            job.article.group course h
            (λ e. all_fit group (ap (slice_get w.groups) (sym e) ∙ there))
            (λ apart. orderly.sized.begun h group there);
        laid = laid_begun w known x.state.begun orderly.sized.laid job.article.group (job_size job)
            sound.group sound.there sound.fits;
        storing = stage_storing w x.state after.state job Waiting (Begun token) begins.waiting
            (λ id. refl) orderly.sized;
        held_one = orderly.sized.held_one;
        kept = orderly.sized.kept;
      };
    })
  where
    course : Course
    course =
        begun_in (slice_get w.groups job.article.group) (x.state.begun job.article.group)
        (job_size job)

    after : World
    after = writer_at x (record (with_stage x.state job (Begun token)) {
      begun = put_at x.state.begun job.article.group course;
    }) g (Writing job token 0)

    at : IsAt w x.state g (Popped job)
    at = at_phase w x orderly g (Popped job) took

    has : HasJob x g job Waiting
    has = record { has = ap job_at took; of_group = at.0; claimed = at.1 }

    sound : IsSoundArticle w job.article
    sound = orderly.sized.storing job.id job.session job.article Waiting begins.waiting

    one : Extent
    one = record { place = begins.place; size = job_size job }

    -- each article of the group fits it, and so does this one
    all_fit : (group : Group) → slice_get w.groups job.article.group ≡ Some group
        → All (FitsOne group) course.articles
    all_fit group there =
        subst (All (FitsOne group))
        (sym (begun_in_articles w.groups job.article.group group
        (x.state.begun job.article.group) (job_size job) begins.place there
        (ap (option_and_then (λ two. place_next two (x.state.begun job.article.group)
        (job_size job))) (sym there) ∙ begins.next)))
        (All-append (FitsOne group) (x.state.begun job.article.group).articles (one ∷ [])
        (orderly.sized.begun job.article.group group there)
        (All-cons (FitsOne group) one [] (
          sound.some,
          subst (λ two. FitsGroup two (job_size job))
              (same_Some sound.group group (sym sound.there ∙ there)) sound.fits,
        )
        (All-nil (FitsOne group))))

-- a write of its blocks fails
pub failed_orderly : (w : Terms) (x : World) (g : ℕ) (job : Job) (token : Token) (written : ℕ)
    (failures : ℕ → ℕ) (τ : State)
    → x.work.writer g ≡ Writing job token written → Fails x.state job token τ → IsOrderly w x
    → IsOrderly w (with_failures (writer_at x τ g (Failed job (Some token))) failures)
failed_orderly w x g job token written failures τ wrote fails orderly =
    subst (λ ρ. IsOrderly w (with_failures (writer_at x ρ g (Failed job (Some token))) failures))
    (sym fails.after)
    (record {
      numbered = record { unopened = orderly.numbered.unopened; peer = orderly.numbered.peer };
      placed = stage_placed w x after g job (Begun token) claims.Failed (Failed job (Some token))
          (record { has = ap job_at wrote; of_group = at.0; claimed = at.1 })
          (record {
            claim = λ id. refl;
            begun = λ h apart. refl;
            session = λ s. refl;
            newest =
                refl;
          })
          (λ h. refl) (λ h. refl) refl (at.0, own_claim x.state job claims.Failed) orderly.placed;
      sized = record {
        begun = orderly.sized.begun;
        laid = orderly.sized.laid;
        storing = stage_storing w x.state after.state job (Begun token) claims.Failed fails.begun
            (λ id. refl) orderly.sized;
        held_one = orderly.sized.held_one;
        kept = orderly.sized.kept;
      };
    })
  where
    after : World
    after = with_failures (writer_at x (with_stage x.state job claims.Failed) g
        (Failed job (Some token))) failures

    at : IsAt w x.state g (Writing job token written)
    at = at_phase w x orderly g (Writing job token written) wrote

-- it finishes the job: its text is kept
pub stored_orderly : (w : Terms) (x : World) (g : ℕ) (job : Job) (token : Token) (written : ℕ)
    (τ : State)
    → x.work.writer g ≡ Writing job token written → Stores x.state job token τ → IsOrderly w x
    → IsOrderly w (writer_at x τ g (Finished job token))
stored_orderly w x g job token written τ wrote stores orderly =
    subst (λ ρ. IsOrderly w (writer_at x ρ g (Finished job token))) (sym stores.after)
    (record {
      numbered = record { unopened = orderly.numbered.unopened; peer = orderly.numbered.peer };
      placed = stage_placed w x after g job (Begun token) (Whole token) (Finished job token)
          (record { has = ap job_at wrote; of_group = at.0; claimed = at.1 })
          (record {
            claim = λ id. refl;
            begun = λ h apart. refl;
            session = λ s. refl;
            newest =
                refl;
          })
          (λ h. refl) (λ h. refl) refl (at.0, own_claim x.state job (Whole token)) orderly.placed;
      sized = record {
        begun = orderly.sized.begun;
        laid = orderly.sized.laid;
        storing = stage_storing w x.state after.state job (Begun token) (Whole token) stores.begun
            (λ id. refl) orderly.sized;
        held_one = orderly.sized.held_one;
        kept = All-append IsKeptRight x.state.kept (one ∷ []) orderly.sized.kept
            (All-cons IsKeptRight one []
            (record { read = sound.read; is_read = sound.is_read; length_of = at.3 })
            (All-nil IsKeptRight));
      };
    })
  where
    one : Kept
    one = record { token = token; id = job.id; text = job.article.text }

    after : World
    after = writer_at x (record (with_stage x.state job (Whole token))
        { kept = x.state.kept ++ one ∷ [] }) g (Finished job token)

    at : IsAt w x.state g (Writing job token written)
    at = at_phase w x orderly g (Writing job token written) wrote

    sound : IsSoundArticle w job.article
    sound = orderly.sized.storing job.id job.session job.article (Begun token) stores.begun
