-- An article that is taken: its id was in no place, and now it is in its session's hand.
use Rattle.std.proofs.Common.{◌≡◌, ◌∙◌, ℕ, false, List, Option, None, Some, count_by, refl, sym, ap}
use Rattle.std.proofs.Common.{subst, arith}
use Rattle.std.proofs.lemmas.Option.{same_Some}
use Rattle.relay_model.specs.Claims.{Accepted, Storing, Stage, Waiting}
use Rattle.relay_model.specs.Invariants.{IsPlaced, WaitsAs, is_of, in_hand, in_hand_of, job_at}
use Rattle.relay_model.specs.Invariants.{places_of, may_carry}
use Rattle.relay_model.specs.State.{State, Session, Job, put_at, put_id}
use Rattle.relay_model.specs.Terms.{Terms}
use Rattle.relay_model.specs.World.{World, with_claim, with_session}
use Rattle.relay_model.specs.Writers.{staged}
use Rattle.relay_facts.proofs.Places.{hand_of, CarriesAsMay, in_hand_of_is, hand_waits, at_on}
use Rattle.relay_facts.proofs.Places.{at_stage, waits_on, all_map, count_none, own_hand, other_hand}
use Rattle.relay_facts.proofs.Puts.{put_at_both, put_at_here, put_id_both, same_id, is_itself}
use Rattle.relay_facts.proofs.Puts.{id_fails}
use Rattle.relay_facts.proofs.Unmoved.{all_carry}

-- nobody stores the id
abbrev pub IsFree : State → List ℕ → Type 0
IsFree σ id = (s : ℕ) (article : Accepted) (stage : Stage) → σ.claim id ≡ Storing s article stage
    → ⊥

-- the job of an id that nobody stores is none that waits
other_id : (σ : State) (id : List ℕ) → IsFree σ id → (job : Job) (stage : Stage)
    → σ.claim job.id ≡ staged job stage → job.id ≡ id → ⊥
other_id σ id free job stage claimed e =
    free job.session job.article stage (ap σ.claim (sym e) ∙ claimed)

-- an id that nobody stores is in no queue
in_no_queue : (w : Terms) (x : World) → IsPlaced w x → (id : List ℕ) → IsFree x.state id → (g : ℕ)
    → count_by (is_of id) (x.work.queue g) ≡ 0
in_no_queue w x p id free g =
    count_none (is_of id) (x.work.queue g)
    (all_map (λ (job : Job). (job.article.group ≡ g) × WaitsAs x.state job.session job)
    (λ (job : Job). is_of id job ≡ false)
    (λ job is. id_fails id job.id (λ e. other_id x.state id free job Waiting is.1.claimed (sym e)))
    (x.work.queue g) (p.queue g))

-- and at no writer
at_no_writer : (w : Terms) (x : World) → IsPlaced w x → (id : List ℕ) → IsFree x.state id → (g : ℕ)
    → in_hand id (job_at (x.work.writer g)) ≡ 0
at_no_writer w x p id free g = by (job_at (x.work.writer g)) refl
  where
    by : (o : Option Job) → job_at (x.work.writer g) ≡ o → in_hand id o ≡ 0
    by None e = refl
    by (Some job) e =
        let is = at_stage w x.state g (x.work.writer g) job e (p.writer g) in
        other_hand id job (id_fails id job.id (λ same.
        other_id x.state id free job is.stage is.claimed (sym same)))

-- the job of an accepted article
abbrev pub job_of : ℕ → List ℕ → Accepted → Job
job_of s id article = record { session = s; id = id; article = article }

-- the world in which it is in its session's hand
abbrev pub taken : World → (s : ℕ) → List ℕ → Accepted → Session → World
taken x s id article next = with_session (with_claim x id (Storing s article Waiting)) s next

-- the id is in one place once its article is taken
taken_one : (w : Terms) (x : World) (s : ℕ) (id : List ℕ) (article : Accepted) (next : Session)
    → IsFree x.state id → hand_of (x.state.session s) ≡ None
    → next.hand ≡ Some (job_of s id article)
    → IsPlaced w x → (k : List ℕ) (t : ℕ) (other : Accepted) (stage : Stage)
    → (taken x s id article next).state.claim k ≡ Storing t other stage
    → places_of (taken x s id article next) k t other.group ≡ 1
taken_one w x s id article next free empty hand p k t other stage claimed =
    put_id_both (λ c. c ≡ Storing t other stage
    → places_of (taken x s id article next) k t other.group ≡ 1)
    x.state.claim id (Storing s article Waiting) k
    (λ e c.
    let same = same_id k id e in
    let none : IsFree x.state k = subst (IsFree x.state) (sym same) free in
    let queue = in_no_queue w x p k none other.group in
    let writer = at_no_writer w x p k none other.group in
    let session = sessions c in
    let own = ap (λ n. in_hand_of k (put_at x.state.session s (Some next) n)) session
    ∙ ap (in_hand_of k) (put_at_here x.state.session s (Some next) s refl)
    ∙ ap (λ i. in_hand i next.hand) same ∙ own_hand (job_of s id article) next.hand hand in
    omega (arith, own, queue, writer))
    (λ e c.
    let one = p.one k t other stage c in
    let same = put_at_both (λ o. in_hand_of k o ≡ in_hand_of k (x.state.session t)) x.state.session
    s (Some next) t
    (λ is. ap (in_hand k) hand ∙ other_hand k (job_of s id article) e
    ∙ sym (ap (λ n. in_hand_of k (x.state.session n)) is ∙ in_hand_of_is k (x.state.session s)
    ∙ ap (in_hand k) empty))
    (λ apart. refl) in
    omega (arith, one, same))
    claimed
  where
    sessions : Storing s article Waiting ≡ Storing t other stage → t ≡ s
    sessions same = cc

-- an article is taken: its job is in the hand of the session
pub taken_placed : (w : Terms) (x : World) (s : ℕ) (id : List ℕ) (article : Accepted)
    (next : Session)
    → IsFree x.state id → hand_of (x.state.session s) ≡ None
    → next.hand ≡ Some (job_of s id article)
    → (may_carry next.phase ≡ false → next.hand ≡ None)
    → IsPlaced w x → IsPlaced w (taken x s id article next)
taken_placed w x s id article next free empty hand carries p =
    record {
      one = taken_one w x s id article next free empty hand p;
      hand = λ t session job there has. in_hands t job (ap hand_of there ∙ has);
      empty = λ t session there. subst CarriesAsMay there (all_carry w x p s next carries t);
      queue = λ g. all_map (λ (job : Job). (job.article.group ≡ g)
          × WaitsAs x.state job.session job)
          (λ (job : Job). (job.article.group ≡ g)
          × WaitsAs (taken x s id article next).state job.session job)
          (λ job is. (is.0, stays job.session job is.1)) (x.work.queue g) (p.queue g);
      writer = λ g. at_on w x.state (taken x s id article next).state g (x.work.writer g)
          (λ job has. let is = at_stage w x.state g (x.work.writer g) job has (p.writer g) in
          still job is.stage is.claimed)
          refl (p.writer g);
    }
  where
    still : (job : Job) (stage : Stage) → x.state.claim job.id ≡ staged job stage
        → put_id x.state.claim id (Storing s article Waiting) job.id ≡ x.state.claim job.id
    still job stage claimed =
        put_id_both (λ c. c ≡ x.state.claim job.id) x.state.claim id (Storing s article Waiting)
        job.id
        (λ e. absurd (other_id x.state id free job stage claimed (same_id job.id id e)))
        (λ e. refl)

    stays : (t : ℕ) (job : Job) → WaitsAs x.state t job
        → WaitsAs (taken x s id article next).state t job
    stays t job waits = waits_on x.state (taken x s id article next).state t job
        (still job Waiting waits.claimed) waits

    in_hands : (t : ℕ) (job : Job) → hand_of (put_at x.state.session s (Some next) t) ≡ Some job
        → WaitsAs (taken x s id article next).state t job
    in_hands t job =
        put_at_both (λ o. hand_of o ≡ Some job → WaitsAs (taken x s id article next).state t job)
        x.state.session s (Some next) t
        (λ e has. subst (WaitsAs (taken x s id article next).state t)
        (same_Some (job_of s id article) job (sym hand ∙ has))
        (record {
          of_session = sym e;
          claimed = put_id_both (λ c. c ≡ Storing s article Waiting) x.state.claim id
              (Storing s article Waiting) id
              (λ is. refl) (λ not. absurd (cc (not, is_itself id)));
        }))
        (λ apart has. stays t job (hand_waits w x p t job has))
