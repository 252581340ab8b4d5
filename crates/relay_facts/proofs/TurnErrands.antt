-- Turn: what is on its way to the session, by what it asks and hears.
use Rattle.std.proofs.Common.{◌≡◌, ◌∙◌, ℕ, nat_lt, Bool, true, false, List, length, Option}
use Rattle.std.proofs.Common.{None, Some, refl, sym, ap, subst}
use Rattle.std.proofs.lemmas.Option.{none-some, same_Some}
use Rattle.std.specs.Prelude.{slice_get}
use Rattle.news_terms.specs.Command.{Part}
use Rattle.news_terms.specs.Token.{Token}
use Rattle.relay_model.specs.Asks.{Ask, Rests, GoesOn, Says, Leaves, Offers, Looks, Reads}
use Rattle.relay_model.specs.Asks.{TakesQueue, Refuses, Takes, Pushes, LooksInSlot, Releases, Ends}
use Rattle.relay_model.specs.Awaited.{told_by, IsStoredFor, IsFree, Errand, NoErrand, BeingStored}
use Rattle.relay_model.specs.Awaited.{ToBeTold, IsInSlot, Awaits, IsAwaited}
use Rattle.relay_model.specs.Claims.{Accepted, Claim, Unknown, Offered, Storing, Stored, Refused}
use Rattle.relay_model.specs.Claims.{Stage, Waiting, OfferAnswer, Wanted, Later, Seen, Mine}
use Rattle.relay_model.specs.Claims.{take_answer, after_take, after_offer, after_refuse}
use Rattle.relay_model.specs.Claims.{after_release}
use Rattle.relay_model.specs.Fetches.{Fetched}
use Rattle.relay_model.specs.Hears.{Heard, Hears, ReadHeard, goes_on, offer_heard, look_heard}
use Rattle.relay_model.specs.Hears.{take_heard, outcome_heard, slot_heard, push_heard}
use Rattle.relay_model.specs.Run.{Turns}
use Rattle.relay_model.specs.Shares.{known_at, Answer, ToPush, Shares, Reading, IsFound, HasNotRead}
use Rattle.relay_model.specs.Shares.{Pushing}
use Rattle.relay_model.specs.Shares.{queue_taken, ring_of, pushed, untold}
use Rattle.relay_model.specs.State.{Session, Holds, Waits, Leaving}
use Rattle.relay_model.specs.State.{Ended, Transfer, TakesThis, Has, Asked, Job, in_phase}
use Rattle.relay_model.specs.Terms.{Terms, queue_limit}
use Rattle.relay_model.specs.World.{World, Output, Outcome, IsKept, HasFailed, with_claim}
use Rattle.relay_model.specs.World.{with_session, with_failures}
use Rattle.relay_facts.proofs.ClaimSteps.{IsAlike, is_same, offer_alike, refuse_alike}
use Rattle.relay_facts.proofs.ClaimSteps.{release_alike}
use Rattle.relay_facts.proofs.Errands.{SameErrand, same_errand, awaited_session, awaited_but}
use Rattle.relay_facts.proofs.Puts.{put_at_both, put_at_here, put_at_there, put_id_both, same_id}
use Rattle.relay_facts.proofs.Puts.{is_itself}
use Rattle.relay_facts.proofs.Sessions.{leaves_all}
use Rattle.relay_facts.proofs.SessionOrderly as orderly
use Rattle.relay_facts.proofs.Taken.{taken, job_of}
use Rattle.relay_facts.proofs.Turning.{leaves_claim, leaves_feed, quiet, session_of}
use Rattle.relay_facts.proofs.Unmoved.{alike}
use Rattle.relay_facts.proofs.DueErrands.{AskAwaits, phase_asks}

-- the session goes on, and the same is on its way
settle : (x : World) (s : ℕ) → IsAwaited x → (z y : World) (next : Session) (heard : Heard) → y ≡ z
    → heard.session ≡ next
    → orderly.Leaves x (with_session z s next) s next → ((t : ℕ) → z.work.slot t ≡ x.work.slot t)
    → Awaits x s next.phase
    → IsAwaited (with_session y s heard.session)
settle x s a z y next heard to goes leaves slot awaits =
    subst (λ v. IsAwaited (with_session v s heard.session)) (sym to)
    (subst (λ n. IsAwaited (with_session z s n)) (sym goes)
    (awaited_session x (with_session z s next) s next
    (λ t. same_errand x (with_session z s next) t leaves.claims (λ g. ap told_by (leaves.writer g))
    (slot t))
    leaves.puts awaits a))

-- CHECK and IHAVE, answered
offer_awaits : (x : World) (s : ℕ) (after : Session) (transfer : Transfer) (id : List ℕ)
    (told : OfferAnswer)
    → Awaits x s after.phase → IsFree x s
    → Awaits x s (offer_heard after transfer id told).session.phase
offer_awaits x s after TakesThis id Wanted a free = a
offer_awaits x s after Has id Wanted a free = free
offer_awaits x s after transfer id Later a free = a
offer_awaits x s after transfer id Seen a free = a

-- a token that was looked up
look_awaits : (x : World) (s : ℕ) (after : Session) (part : Part) (id : List ℕ)
    (token : Option Token)
    → Awaits x s after.phase → IsFree x s
    → Awaits x s (look_heard after part id token).session.phase
look_awaits x s after part id None a free = a
look_awaits x s after part id (Some token) a free = free

-- a token that was read, by what was found
read_awaits : (x : World) (s : ℕ) (after : Session) (asked : Asked) (token : Token) (had : ℕ)
    (found : Fetched) (more : Bool) (heard : Heard)
    → Awaits x s after.phase → IsFree x s → ReadHeard after asked token had found more heard
    → Awaits x s heard.session.phase
read_awaits x s after asked token had found true heard a free h =
    subst (λ (one : Session). Awaits x s one.phase) (sym (session_of h)) free
read_awaits x s after asked token had found false heard a free h =
    subst (λ (one : Session). Awaits x s one.phase) (sym (session_of h.2)) a

-- a token that was read
read_on : (w : Terms) (x : World) (s : ℕ) → IsAwaited x
    → (token : Token) (answer : Answer) (y : World) (heard : Heard)
    → Awaits x s heard.session.phase → Reading w x token answer y
    → IsAwaited (with_session y s heard.session)
read_on w x s is token answer y heard a (IsFound failures rises e to) =
    settle x s is (with_failures x failures) y heard.session heard to refl
    (quiet x s failures heard.session) (λ t. refl) a
read_on w x s is token answer y heard a (HasNotRead failures none failed e to) =
    settle x s is (with_failures x failures) y heard.session heard to refl
    (quiet x s failures heard.session) (λ t. refl) a

-- the article is taken: it is on its way
taken_awaited : (x : World) (s : ℕ) (id : List ℕ) (article : Accepted) (next : Session)
    (transfer : Transfer)
    → next.phase ≡ Waits transfer id → IsFree x s
    → ((t : ℕ) (other : Accepted) (stage : Stage) → x.state.claim id ≡ Storing t other stage → ⊥)
    → IsAwaited x → IsAwaited (taken x s id article next)
taken_awaited x s id article next transfer waits free unstored is =
    awaited_but x y s same (λ t apart. put_at_there x.state.session s (Some next) t apart)
    (λ one e. subst (λ (two : Session). Awaits y s two.phase)
    (same_Some next one (sym (put_at_here x.state.session s (Some next) s refl) ∙ e))
    (subst (Awaits y s) (sym waits) (record {
      errand = BeingStored id stored only free.told free.slot;
      some = λ empty. empty.stores id stored;
      own = only;
    })))
    (λ e. absurd (none-some next (sym e ∙ put_at_here x.state.session s (Some next) s refl))) is
  where
    y : World
    y = taken x s id article next

    stored : IsStoredFor y s id
    stored = record {
      article = article;
      stage = Waiting;
      claimed = put_id_both (λ c. c ≡ Storing s article Waiting) x.state.claim id
          (Storing s article Waiting) id
          (λ e. refl) (λ not. absurd (cc (not, is_itself id)));
    }

    only : (other : List ℕ) → IsStoredFor y s other → other ≡ id
    only other stores =
        put_id_both (λ c. c ≡ Storing s stores.article stores.stage → other ≡ id) x.state.claim id
        (Storing s article Waiting) other
        (λ e c. same_id other id e)
        (λ e c. absurd (free.stores other (record {
          article = stores.article;
          stage = stores.stage;
          claimed = c;
        })))
        stores.claimed

    sessions : (t : ℕ) (other : Accepted) (stage : Stage)
        → Storing s article Waiting ≡ Storing t other stage → t ≡ s
    sessions t other stage e = cc

    same : (t : ℕ) → (t ≡ s → ⊥) → SameErrand x y t
    same t apart = record {
      earlier = λ k stores.
          put_id_both (λ c. c ≡ Storing t stores.article stores.stage → IsStoredFor x t k)
          x.state.claim id (Storing s article Waiting) k
          (λ e c. absurd (apart (sessions t stores.article stores.stage c)))
          (λ e c. record { article = stores.article; stage = stores.stage; claimed = c })
          stores.claimed;
      later = λ k stores. record {
        article = stores.article;
        stage = stores.stage;
        claimed = put_id_both (λ c. c ≡ Storing t stores.article stores.stage) x.state.claim id
            (Storing s article Waiting) k
            (λ e. absurd (unstored t stores.article stores.stage
            (ap x.state.claim (sym (same_id k id e)) ∙ stores.claimed)))
            (λ e. stores.claimed);
      };
      told = λ g. (λ e. e, λ e. e);
      slot = refl;
    }

-- an article that was accepted
take_on : (x : World) (s : ℕ) (after : Session) → IsAwaited x → Awaits x s after.phase → IsFree x s
    → (transfer : Transfer) (id : List ℕ) (article : Accepted) (claim : Claim)
    → x.state.claim id ≡ claim → (y : World) (heard : Heard)
    → y ≡ with_claim x id (after_take s article claim)
    → heard ≡ take_heard s after transfer id article (take_answer s claim)
    → IsAwaited (with_session y s heard.session)
take_on x s after is a free transfer id article claim at y heard to hears =
    by claim transfer at to hears
  where
    mine : (transfer : Transfer)
        → ((t : ℕ) (other : Accepted) (stage : Stage) → x.state.claim id ≡ Storing t other stage
        → ⊥)
        → y ≡ with_claim x id (Storing s article Waiting)
        → heard ≡ take_heard s after transfer id article Mine
        → IsAwaited (with_session y s heard.session)
    mine transfer unstored to hears =
        let next : Session = record after {
          phase = Waits transfer id;
          hand =
              Some (job_of s id article);
        } in
        subst (λ v. IsAwaited (with_session v s heard.session)) (sym to)
        (subst (λ n. IsAwaited (with_session (with_claim x id (Storing s article Waiting)) s n))
        (sym (session_of hears))
        (taken_awaited x s id article next transfer refl free unstored is))

    stays : (claim : Claim) (next : Session) → x.state.claim id ≡ claim → y ≡ with_claim x id claim
        → heard.session ≡ next
        → Awaits x s next.phase → IsAwaited (with_session y s heard.session)
    stays claim next at to hears awaits =
        settle x s is (with_claim x id claim) y next heard to hears
        (leaves_claim x s id claim next (subst (λ c. IsAlike c claim) (sym at) (is_same claim)))
        (λ t. refl) awaits

    by : (claim : Claim) (transfer : Transfer) → x.state.claim id ≡ claim
        → y ≡ with_claim x id (after_take s article claim)
        → heard ≡ take_heard s after transfer id article (take_answer s claim)
        → IsAwaited (with_session y s heard.session)
    by Unknown transfer at to hears =
        mine transfer (λ t other stage e. absurd (cc (at, e))) to hears
    by (Offered one since) transfer at to hears =
        mine transfer (λ t other stage e. absurd (cc (at, e))) to hears
    by (Storing one other stage) TakesThis at to hears =
        stays (Storing one other stage) (in_phase after (Holds id article)) at to (session_of hears)
        free
    by (Storing one other stage) Has at to hears =
        stays (Storing one other stage) after at to (session_of hears) a
    by (Stored token moment) transfer at to hears =
        stays (Stored token moment) after at to (session_of hears) a
    by (Refused moment) transfer at to hears =
        stays (Refused moment) after at to (session_of hears) a

-- a job that is pushed
push_on : (x : World) (s : ℕ) (after : Session) → IsAwaited x → Awaits x s after.phase
    → (job : Job) (room : Bool) (answer : Answer)
    (y : World) (heard : Heard) → Pushing x job room answer y → (told : Bool) → answer ≡ ToPush told
    → heard ≡ push_heard after told
    → IsAwaited (with_session y s heard.session)
push_on x s after is a job true answer y heard pushes told says hears =
    let room : told ≡ true = cc (says, pushes.0) in
    let next : Session = record after { hand = None } in
    let session : heard.session ≡ next = session_of (hears ∙ ap (push_heard after) room) in
    let z = with_session (pushed x job) s next in
    subst (λ v. IsAwaited (with_session v s heard.session)) (sym pushes.1)
    (subst (λ n. IsAwaited (with_session (pushed x job) s n)) (sym session)
    (awaited_session x z s next
    (λ t. same_errand x z t (alike x.state z.state (λ id. refl)) (λ g. refl) refl) (λ t. refl) a
    is))
push_on x s after is a job false answer y heard pushes told says hears =
    let room : told ≡ false = cc (says, pushes.0) in
    let session : heard.session ≡ after = session_of (hears ∙ ap (push_heard after) room) in
    settle x s is x y after heard pushes.1 session (leaves_all x s after) (λ t. refl) a

-- the outcome in the slot is all that is on the way
record OnlyInSlot (x : World) (s : ℕ) : Type 0 where
  none : (id : List ℕ) → IsStoredFor x s id → ⊥
  untold : (g : ℕ) → told_by (x.work.writer g) ≡ Some s → ⊥

-- an outcome in the slot is all that is on the way
only_in_slot : (x : World) (s : ℕ) (outcome : Outcome) → x.work.slot s ≡ Some outcome → Errand x s
    → OnlyInSlot x s
only_in_slot x s outcome e (NoErrand free) = absurd (none-some outcome (sym free.slot ∙ e))
only_in_slot x s outcome e (BeingStored k is only untold slot) =
    absurd (none-some outcome (sym slot ∙ e))
only_in_slot x s outcome e (ToBeTold g told only none slot) =
    absurd (none-some outcome (sym slot ∙ e))
only_in_slot x s outcome e (IsInSlot o slot none untold) = record { none = none; untold = untold }

-- the slot that was looked at
slot_on : (x : World) (s : ℕ) (after : Session) → IsAwaited x → Awaits x s after.phase
    → (transfer : Transfer) (id : List ℕ)
    → Errand x s → (outcome : Option Outcome) → x.work.slot s ≡ outcome
    → (y : World) (heard : Heard) → y ≡ untold x s
    → heard ≡ slot_heard after transfer id outcome → IsAwaited (with_session y s heard.session)
slot_on x s after is a transfer id errand outcome at y heard to hears =
    subst (λ v. IsAwaited (with_session v s heard.session)) (sym to) (by outcome at hears)
  where
    z : World
    z = with_session (untold x s) s heard.session

    by : (outcome : Option Outcome) → x.work.slot s ≡ outcome
        → heard ≡ slot_heard after transfer id outcome → IsAwaited z
    by None at hears =
        awaited_session x z s heard.session
        (λ t. same_errand x z t (alike x.state z.state (λ k. refl)) (λ g. refl)
        (put_at_both (λ o. o ≡ x.work.slot t) x.work.slot s None t
        (λ e. sym at ∙ ap x.work.slot (sym e)) (λ apart. refl)))
        (λ t. refl) (subst (λ (one : Session). Awaits x s one.phase) (sym (session_of hears)) a) is
    by (Some outcome) at hears =
        let only = only_in_slot x s outcome at errand in
        let free : IsFree z s = record {
          stores = λ k stores. only.none k (record {
            article = stores.article;
            stage = stores.stage;
            claimed = stores.claimed;
          });
          told = only.untold;
          slot = put_at_here x.work.slot s None s refl;
        } in
        awaited_but x z s
        (λ t apart. same_errand x z t (alike x.state z.state (λ k. refl)) (λ g. refl)
        (put_at_there x.work.slot s None t apart))
        (λ t apart. put_at_there x.state.session s (Some heard.session) t apart)
        (λ one e. subst (λ (two : Session). Awaits z s two.phase)
        (same_Some heard.session one
        (sym (put_at_here x.state.session s (Some heard.session) s refl) ∙ e))
        (subst (λ (two : Session). Awaits z s two.phase) (sym (session_of hears))
        (answered transfer outcome free)))
        (λ e. free) is
      where
        answered : (transfer : Transfer) (outcome : Outcome) → IsFree z s
            → Awaits z s (outcome_heard after transfer id outcome).session.phase
        answered TakesThis IsKept free = free
        answered TakesThis HasFailed free = NoErrand free
        answered Has IsKept free = free
        answered Has HasFailed free = free

-- by what was asked
asked_awaited : (w : Terms) (x : World) (s now : ℕ) (after : Session) → IsAwaited x
    → Awaits x s after.phase → (ask : Ask)
    → AskAwaits x s ask → (answer : Answer) (y : World) (heard : Heard)
    → Shares w x s now ask answer y → Hears s after ask answer heard
    → IsAwaited (with_session y s heard.session)
asked_awaited w x s now after is a Rests asks answer y heard shares hears =
    settle x s is x y after heard shares.1 (session_of hears) (leaves_all x s after) (λ t. refl) a
asked_awaited w x s now after is a GoesOn asks answer y heard shares hears =
    settle x s is x y after heard shares.1 (session_of hears) (leaves_all x s after) (λ t. refl) a
asked_awaited w x s now after is a (Says reply) asks answer y heard shares hears =
    settle x s is x y after heard shares.1 (session_of hears) (leaves_all x s after) (λ t. refl) a
asked_awaited w x s now after is a (Leaves reply) asks answer y heard shares hears =
    settle x s is x y (in_phase after Leaving) heard shares.1 (session_of hears)
    (leaves_all x s (in_phase after Leaving)) (λ t. refl) (NoErrand asks)
asked_awaited w x s now after is a (Offers transfer id) asks answer y heard shares hears =
    let next = (offer_heard after transfer id hears.0).session in
    settle x s is (with_claim x id (after_offer s now (known_at w x now id))) y next heard shares.1
    (session_of hears.2)
    (leaves_claim x s id (after_offer s now (known_at w x now id)) next
    (offer_alike w.offers s now (x.state.claim id)))
    (λ t. refl)
    (offer_awaits x s after transfer id hears.0 a asks)
asked_awaited w x s now after is a (Looks part id) asks answer y heard shares hears =
    let next = (look_heard after part id hears.0).session in
    settle x s is x y next heard shares.1 (session_of hears.2) (leaves_all x s next) (λ t. refl)
    (look_awaits x s after part id hears.0 a asks)
asked_awaited w x s now after is a (Reads asked token had) asks answer y heard shares hears =
    read_on w x s is token answer y heard
    (read_awaits x s after asked token had hears.0 (goes_on asked token had hears.0) heard a asks
    hears.2) shares
asked_awaited w x s now after is a (TakesQueue feed most) asks answer y heard shares hears =
    settle x s is (queue_taken x (ring_of (slice_get w.feeds feed)) feed most) y after heard
    shares.1 (session_of hears.3)
    (leaves_feed x s (ring_of (slice_get w.feeds feed)) feed most after) (λ t. refl) a
asked_awaited w x s now after is a (Refuses transfer id reason) asks answer y heard shares hears =
    settle x s is (with_claim x id (after_refuse s now (known_at w x now id))) y after heard
    shares.1
    (session_of hears)
    (leaves_claim x s id (after_refuse s now (known_at w x now id)) after
    (refuse_alike w.offers s now (x.state.claim id))) (λ t. refl) a
asked_awaited w x s now after is a (Takes transfer id article) asks answer y heard shares hears =
    let told : hears.0 ≡ take_answer s (x.state.claim id) = cc (hears.1, shares.0) in
    take_on x s after is a asks transfer id article (x.state.claim id) refl y heard shares.1
    (hears.2 ∙ ap (take_heard s after transfer id article) told)
asked_awaited w x s now after is a (Pushes job) asks answer y heard shares hears =
    push_on x s after is a job (nat_lt (length (x.work.queue job.article.group)) queue_limit) answer
    y heard shares hears.0 hears.1 hears.2
asked_awaited w x s now after is a (LooksInSlot transfer id) asks answer y heard shares hears =
    slot_on x s after is a transfer id asks.errand hears.0 (cc (hears.1, shares.0)) y heard shares.1
    hears.2
asked_awaited w x s now after is a (Releases id) asks answer y heard shares hears =
    settle x s is (with_claim x id (after_release s (x.state.claim id))) y after heard shares.1
    (session_of hears)
    (leaves_claim x s id (after_release s (x.state.claim id)) after
    (release_alike s (x.state.claim id))) (λ t. refl) a
asked_awaited w x s now after is a Ends asks answer y heard shares hears =
    settle x s is x y (in_phase after Ended) heard shares.1 (session_of hears)
    (leaves_all x s (in_phase after Ended)) (λ t. refl) asks

-- a Turn
pub turn_awaited : (w : Terms) (x : World) (s now : ℕ) (output : Output) (x' : World)
    → Turns w x s now output x' → IsAwaited x → IsAwaited x'
turn_awaited w x s now output x' turn is =
    let due = phase_asks w x s turn.session (is.there s turn.session turn.there) now
    turn.session.phase refl turn.due turn.is_due in
    subst IsAwaited (sym turn.after)
    (asked_awaited w x s now turn.due.after is due.awaits turn.due.ask due.asks turn.answer
    turn.between turn.heard turn.shares turn.hears)
