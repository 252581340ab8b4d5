-- A step of a writer that changes the claim on its job's id: the stage, or the id is stored no
-- more.
use Rattle.std.proofs.Common.{◌≡◌, ◌∙◌, ◌+◌, ℕ, Bool, true, false, List, Some, All, count_by}
use Rattle.std.proofs.Common.{bytes_eq, refl, sym, ap, subst, arith, true≢false}
use Rattle.relay_model.specs.Claims.{Accepted, Storing, Stage, Waiting}
use Rattle.relay_model.specs.Invariants.{IsPlaced, IsAt, WaitsAs, is_of, in_hand, in_hand_of}
use Rattle.relay_model.specs.Invariants.{job_at, places_of}
use Rattle.relay_model.specs.State.{State, Job, put_at}
use Rattle.relay_model.specs.Terms.{Terms}
use Rattle.relay_model.specs.World.{World, Writer}
use Rattle.relay_model.specs.Writers.{staged}
use Rattle.relay_facts.proofs.Places.{hand_of, in_hand_of_is, hand_waits, at_on, at_stage, waits_on}
use Rattle.relay_facts.proofs.Places.{all_also, none_passes, own_hand, other_hand, same_count}
use Rattle.relay_facts.proofs.Puts.{put_at_both, put_at_here, same_id, id_passes, id_fails}

-- the writer of g has this job, whose id is being stored at this stage
pub record HasJob (x : World) (g : ℕ) (job : Job) (stage : Stage) : Type 0 where
  pub has : job_at (x.work.writer g) ≡ Some job
  pub of_group : job.article.group ≡ g
  pub claimed : x.state.claim job.id ≡ staged job stage

-- two jobs of one id that is being stored
same_article : (σ : State) (one other : Job) (a b : Stage) → σ.claim one.id ≡ staged one a
    → σ.claim other.id ≡ staged other b → other.id ≡ one.id → other.article ≡ one.article
same_article σ one other a b first second e =
    articles (sym second ∙ ap σ.claim e ∙ first)
  where
    articles : staged other b ≡ staged one a → other.article ≡ one.article
    articles same = cc

-- how often the id of the writer's job counts: once, at the writer
counted : (w : Terms) (x : World) (g : ℕ) (job : Job) (stage : Stage) → IsPlaced w x
    → HasJob x g job stage
    → in_hand_of job.id (x.state.session job.session) + count_by (is_of job.id) (x.work.queue g)
    + in_hand job.id (job_at (x.work.writer g)) ≡ 1
counted w x g job stage p h =
    subst (λ n. in_hand_of job.id (x.state.session job.session) + count_by (is_of job.id)
    (x.work.queue n)
    + in_hand job.id (job_at (x.work.writer n)) ≡ 1) h.of_group
    (p.one job.id job.session job.article stage h.claimed)

-- the id of the writer's job is in no hand
hands_apart : (w : Terms) (x : World) (g : ℕ) (job : Job) (stage : Stage) → IsPlaced w x
    → HasJob x g job stage → (s : ℕ) (other : Job) → hand_of (x.state.session s) ≡ Some other
    → other.id ≡ job.id → ⊥
hands_apart w x g job stage p h s other has e =
    let waits = hand_waits w x p s other has in
    let same : job.session ≡ s = sessions (sym h.claimed ∙ ap x.state.claim (sym e) ∙ waits.claimed)
    ∙ waits.of_session in
    let hand = in_hand_of_is job.id (x.state.session job.session)
    ∙ ap (λ n. in_hand job.id (hand_of (x.state.session n))) same
    ∙ ap (in_hand job.id) has ∙ ap (λ id. in_hand id (Some other)) (sym e)
    ∙ own_hand other (Some other) refl in
    let one = counted w x g job stage p h in
    let self = own_hand job (job_at (x.work.writer g)) h.has in
    absurd (omega (arith, hand, one, self))
  where
    sessions : staged job stage ≡ staged other Waiting → job.session ≡ other.session
    sessions same = cc

-- nor in the group's queue
queue_apart : (w : Terms) (x : World) (g : ℕ) (job : Job) (stage : Stage) → IsPlaced w x
    → HasJob x g job stage → All (λ other. is_of job.id other ≡ false) (x.work.queue g)
queue_apart w x g job stage p h =
    let one = counted w x g job stage p h in
    let self = own_hand job (job_at (x.work.writer g)) h.has in
    none_passes (is_of job.id) (x.work.queue g) (omega (arith, one, self))

-- what the writer's step does: its job stays or goes, the claims on other ids stay
pub record StepsOn (w : Terms) (x y : World) (g : ℕ) (job : Job) : Type 0 where
  pub next : Writer
  -- the job's id is stored no more, or for the same job, which the writer still has
  pub here : (s : ℕ) (article : Accepted) (stage : Stage)
      → y.state.claim job.id ≡ Storing s article stage
      → (s ≡ job.session) × (article ≡ job.article) × (job_at next ≡ Some job)
  pub there : (id : List ℕ) → bytes_eq id job.id ≡ false → y.state.claim id ≡ x.state.claim id
  -- the writer has no other job
  pub no_other : (id : List ℕ) → bytes_eq id job.id ≡ false → in_hand id (job_at next) ≡ 0
  pub is_at : IsAt w y.state g next
  pub begun : (h : ℕ) → (h ≡ g → ⊥) → y.state.begun h ≡ x.state.begun h
  pub session : (s : ℕ) → y.state.session s ≡ x.state.session s
  pub queue : (h : ℕ) → y.work.queue h ≡ x.work.queue h
  pub writer : (h : ℕ) → y.work.writer h ≡ put_at x.work.writer g next h

-- a claim on the id of another job
other_claim : (w : Terms) (x y : World) (g : ℕ) (job : Job) → StepsOn w x y g job
    → (other : Job) → (other.id ≡ job.id → ⊥) → y.state.claim other.id ≡ x.state.claim other.id
other_claim w x y g job step other apart = step.there other.id (id_fails other.id job.id apart)

-- the counts of an id that is stored after the step
still_one : (w : Terms) (x y : World) (g : ℕ) (job : Job) (stage : Stage) → IsPlaced w x
    → HasJob x g job stage → StepsOn w x y g job → (id : List ℕ) (s : ℕ) (article : Accepted)
    (at : Stage) → y.state.claim id ≡ Storing s article at → places_of y id s article.group ≡ 1
still_one w x y g job stage p h step id s article at claimed = by (bytes_eq id job.id) refl
  where
    by : (b : Bool) → bytes_eq id job.id ≡ b → places_of y id s article.group ≡ 1
    by true e =
        let same = same_id id job.id e in
        let is = step.here s article at (ap y.state.claim (sym same) ∙ claimed) in
        let group : article.group ≡ g = ap (λ a. a.group) is.1 ∙ h.of_group in
        let writer : job_at (y.work.writer article.group) ≡ job_at (x.work.writer article.group) =
        ap (λ n. job_at (y.work.writer n)) group ∙ ap job_at (step.writer g)
        ∙ ap job_at (put_at_here x.work.writer g step.next g refl) ∙ is.2 ∙ sym h.has
        ∙ ap (λ n. job_at (x.work.writer n)) (sym group) in
        same_count x y id s article.group (ap hand_of (step.session s)) (step.queue article.group)
        writer
        ∙ ap (λ a. places_of x id s a.group) is.1
        ∙ ap (λ n. places_of x id n job.article.group) is.0
        ∙ ap (λ i. places_of x i job.session job.article.group) same
        ∙ p.one job.id job.session job.article stage h.claimed
    by false e =
        let one = p.one id s article at (sym (step.there id e) ∙ claimed) in
        let hand = ap (in_hand_of id) (step.session s) in
        let queue = ap (count_by (is_of id)) (step.queue article.group) in
        let writer = ap (λ v. in_hand id (job_at v)) (step.writer article.group)
        ∙ put_at_both (λ v. in_hand id (job_at v)
        ≡ in_hand id (job_at (x.work.writer article.group)))
        x.work.writer g step.next article.group
        (λ same. step.no_other id e
        ∙ sym (ap (λ n. in_hand id (job_at (x.work.writer n))) same ∙ ap (in_hand id) h.has
        ∙ other_hand id job e))
        (λ other. refl) in
        omega (arith, one, hand, queue, writer)

-- each job stays in its one place
pub steps_on_placed : (w : Terms) (x y : World) (g : ℕ) (job : Job) (stage : Stage)
    → HasJob x g job stage → StepsOn w x y g job → IsPlaced w x → IsPlaced w y
steps_on_placed w x y g job stage h step p =
    record {
      one = still_one w x y g job stage p h step;
      hand = λ s session other there has.
          let hand = ap hand_of (sym (step.session s) ∙ there) ∙ has in
          waits_on x.state y.state s other
          (other_claim w x y g job step other (hands_apart w x g job stage p h s other hand))
          (hand_waits w x p s other hand);
      empty = λ s session there. p.empty s session (sym (step.session s) ∙ there);
      queue = λ n. subst (λ q. All (λ (one : Job). (one.article.group ≡ n)
          × WaitsAs y.state one.session one) q) (sym (step.queue n))
          (queued n);
      writer = λ n. subst (IsAt w y.state n) (sym (step.writer n))
          (put_at_both (IsAt w y.state n) x.work.writer g step.next n
          (λ e. subst (λ k. IsAt w y.state k step.next) (sym e) step.is_at)
          (λ other. at_on w x.state y.state n (x.work.writer n)
          (λ one has. other_claim w x y g job step one
          (λ e. let is = at_stage w x.state n (x.work.writer n) one has (p.writer n) in
          other (sym is.of_group
          ∙ ap (λ a. a.group) (same_article x.state job one stage is.stage h.claimed is.claimed e)
          ∙ h.of_group)))
          (step.begun n other) (p.writer n)));
    }
  where
    goes_on : (n : ℕ) (one : Job) → (one.article.group ≡ n) × WaitsAs x.state one.session one
        → (n ≡ g → is_of job.id one ≡ false)
        → (one.article.group ≡ n) × WaitsAs y.state one.session one
    goes_on n one is apart = (
      is.0,
      waits_on x.state y.state one.session one
          (other_claim w x y g job step one
          (λ e. let group = same_article x.state job one stage Waiting h.claimed is.1.claimed e in
          true≢false (sym (id_passes job.id one.id (sym e))
          ∙ apart (sym is.0 ∙ ap (λ a. a.group) group ∙ h.of_group))))
          is.1,
    )

    queued : (n : ℕ) → All (λ (one : Job). (one.article.group ≡ n)
        × WaitsAs y.state one.session one) (x.work.queue n)
    queued n =
        all_also (λ (one : Job). (one.article.group ≡ n) × WaitsAs x.state one.session one)
        (λ (one : Job). n ≡ g → is_of job.id one ≡ false)
        (λ (one : Job). (one.article.group ≡ n) × WaitsAs y.state one.session one)
        (goes_on n) (x.work.queue n) (p.queue n)
        (λ k d inside e. (subst (λ m. All (λ (o : Job). is_of job.id o ≡ false) (x.work.queue m))
        (sym e)
        (queue_apart w x g job stage p h)) k d inside)
