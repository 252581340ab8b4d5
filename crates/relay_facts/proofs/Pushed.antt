-- A push: the queue gains the job that the session's hand loses.
use Rattle.std.proofs.Common.{◌≡◌, ◌∙◌, ◌+◌, ◌++◌, ℕ, Bool, true, false, List, [], ◌∷◌, None, Some}
use Rattle.std.proofs.Common.{All, count_by, cond, refl, sym, ap, subst, arith}
use Rattle.std.proofs.lemmas.List.Elements.{All-append, All-cons, All-nil}
use Rattle.std.proofs.lemmas.List.Sums.{sum_by-append, sum_by-cons}
use Rattle.std.proofs.lemmas.Option.{none-some}
use Rattle.relay_model.specs.Claims.{Accepted, Storing, Stage, Waiting}
use Rattle.relay_model.specs.Invariants.{IsPlaced, WaitsAs, is_of, in_hand, in_hand_of, places_of}
use Rattle.relay_model.specs.Shares.{pushed}
use Rattle.relay_model.specs.State.{Session, Job, put_at}
use Rattle.relay_model.specs.Terms.{Terms}
use Rattle.relay_model.specs.World.{World, with_session}
use Rattle.relay_model.specs.Writers.{staged}
use Rattle.relay_facts.proofs.Places.{hand_of, CarriesAsMay, in_hand_of_is, hand_waits, at_on}
use Rattle.relay_facts.proofs.Places.{waits_on, all_map, own_hand, other_hand}
use Rattle.relay_facts.proofs.Puts.{put_at_both, put_at_here, same_id}
use Rattle.relay_facts.proofs.Unmoved.{all_carry}

-- the world in which the job is in its queue and the hand is empty
abbrev pub handed : World → ℕ → Job → Session → World
handed x s job next = with_session (pushed x job) s next

-- the count of a list with one more
count_more : (id : List ℕ) (job : Job) (queue : List Job)
    → count_by (is_of id) (queue ++ job ∷ []) ≡ count_by (is_of id) queue + in_hand id (Some job)
count_more id job queue =
    omega (
      arith,
      sum_by-append (λ j. cond (is_of id j) 1 0) queue (job ∷ []),
      sum_by-cons
          (λ j. cond (is_of id j) 1 0) job [],
    )

-- an id of another job counts as before
count_other : (x : World) (s : ℕ) (job : Job) (next : Session)
    → hand_of (x.state.session s) ≡ Some job
    → next.hand ≡ None → (id : List ℕ) (t g : ℕ) → is_of id job ≡ false
    → places_of (handed x s job next) id t g ≡ places_of x id t g
count_other x s job next full empty id t g other =
    let hand = put_at_both (λ o. in_hand_of id o ≡ in_hand_of id (x.state.session t))
    x.state.session s (Some next) t
    (λ is. ap (in_hand id) empty
    ∙ sym (ap (λ n. in_hand_of id (x.state.session n)) is ∙ in_hand_of_is id (x.state.session s)
    ∙ ap (in_hand id) full ∙ other_hand id job other))
    (λ apart. refl) in
    let queue = put_at_both (λ q. count_by (is_of id) q ≡ count_by (is_of id) (x.work.queue g))
    x.work.queue job.article.group
    (x.work.queue job.article.group ++ job ∷ []) g
    (λ is. omega (
      arith,
      count_more id job (x.work.queue job.article.group),
      other_hand id job other,
      ap (λ n. count_by (is_of id) (x.work.queue n)) is,
    ))
    (λ apart. refl) in
    omega (arith, hand, queue)

-- the job's own id counts once less in the hand and once more in the queue
count_own : (x : World) (s : ℕ) (job : Job) (next : Session)
    → hand_of (x.state.session s) ≡ Some job
    → next.hand ≡ None
    → places_of (handed x s job next) job.id s job.article.group
    ≡ places_of x job.id s job.article.group
count_own x s job next full empty =
    let id = job.id in
    let g = job.article.group in
    let before = in_hand_of_is id (x.state.session s)
    ∙ own_hand job (hand_of (x.state.session s)) full in
    let after = ap (in_hand_of id) (put_at_here x.state.session s (Some next) s refl)
    ∙ ap (in_hand id) empty in
    let queue = ap (count_by (is_of id)) (put_at_here x.work.queue g (x.work.queue g ++ job ∷ []) g
    refl)
    ∙ count_more id job (x.work.queue g) in
    let one = own_hand job (Some job) refl in
    omega (arith, before, after, queue, one)

-- the id is in one place after the push
pushed_one : (w : Terms) (x : World) (s : ℕ) (job : Job) (next : Session)
    → hand_of (x.state.session s) ≡ Some job → next.hand ≡ None → IsPlaced w x
    → (id : List ℕ) (t : ℕ) (article : Accepted) (stage : Stage)
    → x.state.claim id ≡ Storing t article stage
    → places_of (handed x s job next) id t article.group ≡ 1
pushed_one w x s job next full empty p id t article stage claimed = by (is_of id job) refl
  where
    claims : Storing t article stage ≡ staged job Waiting
        → (t ≡ job.session) × (article ≡ job.article)
    claims same = (cc, cc)

    by : (b : Bool) → is_of id job ≡ b → places_of (handed x s job next) id t article.group ≡ 1
    by false e = count_other x s job next full empty id t article.group e
        ∙ p.one id t article stage claimed
    by true e =
        let same = same_id id job.id e in
        let waits = hand_waits w x p s job full in
        let is = claims (sym claimed ∙ ap x.state.claim same ∙ waits.claimed) in
        subst (λ n. places_of (handed x s job next) n t article.group ≡ 1) (sym same)
        (subst (λ n. places_of (handed x s job next) job.id n article.group ≡ 1)
        (sym (is.0 ∙ waits.of_session))
        (subst (λ (a : Accepted). places_of (handed x s job next) job.id s a.group ≡ 1) (sym is.1)
        (count_own x s job next full empty
        ∙ p.one job.id s job.article Waiting
        (subst (λ n. x.state.claim job.id ≡ Storing n job.article Waiting) waits.of_session
        waits.claimed))))

-- a push keeps each job in its one place
pub pushed_placed : (w : Terms) (x : World) (s : ℕ) (job : Job) (next : Session)
    → hand_of (x.state.session s) ≡ Some job → next.hand ≡ None → IsPlaced w x
    → IsPlaced w (handed x s job next)
pushed_placed w x s job next full empty p =
    record {
      one = pushed_one w x s job next full empty p;
      hand = λ t session other there has. in_hands t other (ap hand_of there ∙ has);
      empty = λ t session there. subst CarriesAsMay there (all_carry w x p s next (λ e. empty) t);
      queue = λ g. put_at_both (λ q. All (λ (one : Job). (one.article.group ≡ g)
          × WaitsAs (handed x s job next).state one.session one) q)
          x.work.queue job.article.group (x.work.queue job.article.group ++ job ∷ []) g
          (λ e. subst (λ n. All (λ (one : Job). (one.article.group ≡ n)
          × WaitsAs (handed x s job next).state one.session one)
          (x.work.queue job.article.group ++ job ∷ [])) (sym e)
          (All-append (λ (one : Job). (one.article.group ≡ job.article.group)
          × WaitsAs (handed x s job next).state one.session one)
          (x.work.queue job.article.group) (job ∷ [])
          (queued job.article.group)
          (All-cons (λ (one : Job). (one.article.group ≡ job.article.group)
          × WaitsAs (handed x s job next).state one.session one) job []
          (refl, record { of_session = refl; claimed = (hand_waits w x p s job full).claimed })
          (All-nil (λ (one : Job). (one.article.group ≡ job.article.group)
          × WaitsAs (handed x s job next).state one.session one)))))
          (λ apart. queued g);
      writer = λ g. at_on w x.state (handed x s job next).state g (x.work.writer g)
          (λ one has. refl) refl (p.writer g);
    }
  where
    queued : (g : ℕ) → All (λ (one : Job). (one.article.group ≡ g)
        × WaitsAs (handed x s job next).state one.session one) (x.work.queue g)
    queued g =
        all_map (λ (one : Job). (one.article.group ≡ g) × WaitsAs x.state one.session one)
        (λ (one : Job). (one.article.group ≡ g)
        × WaitsAs (handed x s job next).state one.session one)
        (λ one is. (is.0, waits_on x.state (handed x s job next).state one.session one refl is.1))
        (x.work.queue g) (p.queue g)

    in_hands : (t : ℕ) (other : Job) → hand_of (put_at x.state.session s (Some next) t) ≡ Some other
        → WaitsAs (handed x s job next).state t other
    in_hands t other =
        put_at_both (λ o. hand_of o ≡ Some other → WaitsAs (handed x s job next).state t other)
        x.state.session s (Some next) t
        (λ e has. absurd (none-some other (sym empty ∙ has)))
        (λ apart has. waits_on x.state (handed x s job next).state t other refl
        (hand_waits w x p t other has))
