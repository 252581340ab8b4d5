-- Turn: what is asked is done, and the session hears the answer.
use Rattle.std.proofs.Common.{◌≡◌, ◌∙◌, ◌+◌, ℕ, nat_lt, Bool, true, false, List, length, Option}
use Rattle.std.proofs.Common.{None, Some, refl, sym, ap, subst, true≢false}
use Rattle.std.proofs.lemmas.Option.{none-some, same_Some}
use Rattle.std.specs.Prelude.{slice_get}
use Rattle.news_terms.specs.Command.{Part}
use Rattle.news_terms.specs.Token.{Token}
use Rattle.relay_model.specs.Asks.{Ask, Rests, GoesOn, Says, Leaves, Offers, Looks, Reads}
use Rattle.relay_model.specs.Asks.{TakesQueue, Refuses, Takes, Pushes, LooksInSlot, Releases, Ends}
use Rattle.relay_model.specs.Asks.{without_offer}
use Rattle.relay_model.specs.Claims.{Accepted, Claim, Unknown, Offered, Storing, Stored, Refused}
use Rattle.relay_model.specs.Claims.{Waiting, OfferAnswer, Wanted, Later, Seen, Mine, take_answer}
use Rattle.relay_model.specs.Claims.{after_take, after_offer, after_refuse, after_release}
use Rattle.relay_model.specs.Fetches.{Fetched}
use Rattle.relay_model.specs.Hears.{Heard, Hears, ReadHeard, goes_on, offer_heard, look_heard}
use Rattle.relay_model.specs.Hears.{take_heard, outcome_heard, slot_heard, push_heard}
use Rattle.relay_model.specs.Invariants.{IsSoundArticle}
use Rattle.relay_facts.proofs.Orderly.{IsOrderly}
use Rattle.relay_model.specs.Run.{Turns, is_running}
use Rattle.relay_model.specs.Shares.{known_at, Answer, ToPush, Shares, Reading, IsFound, HasNotRead}
use Rattle.relay_model.specs.Shares.{Pushing}
use Rattle.relay_model.specs.Shares.{queue_taken, ring_of, pushed, untold}
use Rattle.relay_model.specs.State.{Session, Ready, AwaitsBlock, Holds, Waits, Fetches, Leaving}
use Rattle.relay_model.specs.State.{Ended}
use Rattle.relay_model.specs.State.{Transfer, TakesThis, Has, Asked, OfId, Job, in_phase}
use Rattle.relay_model.specs.State.{with_offers}
use Rattle.relay_model.specs.Terms.{Terms, queue_limit}
use Rattle.relay_model.specs.World.{World, Output, Outcome, IsKept, HasFailed, with_claim}
use Rattle.relay_model.specs.World.{with_session, with_failures}
use Rattle.relay_facts.specs.Sound.{IsSound}
use Rattle.relay_facts.proofs.ClaimSteps.{IsAlike, is_same, put_alike, offer_alike, refuse_alike}
use Rattle.relay_facts.proofs.ClaimSteps.{release_alike}
use Rattle.relay_facts.proofs.Dues.{IsFit, AskFits, due_fits, in_idle_phase, with_others}
use Rattle.relay_facts.proofs.SessionOrderly as orderly
use Rattle.relay_facts.proofs.SessionOrderly.{Follows, follows_orderly, taken_orderly}
use Rattle.relay_facts.proofs.SessionOrderly.{handed_orderly}
use Rattle.relay_facts.proofs.Taken.{IsFree, job_of}
use Rattle.relay_facts.proofs.Sessions.{leaves_all}
use Rattle.relay_facts.proofs.Unmoved.{alike}

-- a session of a world in order that runs is fit
session_fits : (w : Terms) (x : World) → IsOrderly w x → (s : ℕ) (session : Session)
    → x.state.session s ≡ Some session → is_running session.phase ≡ true
    → IsFit w session
session_fits w x is s session there runs = record {
  runs = runs;
  peer = is.numbered.peer s session there runs;
  carries = is.placed.empty s session there;
  holds = λ article has. is.sized.held_one s session article there has;
}

-- a Turn that leaves each job in its place: the shared step leads to z, the session to next
abbrev Follows_to : Terms → World → ℕ → World → Heard → Type 0
Follows_to w x s y heard = IsOrderly w (with_session y s heard.session)

-- the session goes on in the world after what was shared
settle : (w : Terms) (x : World) (s : ℕ) (old : Session) → x.state.session s ≡ Some old
    → IsOrderly w x
    → (z y : World) (next : Session) (heard : Heard) → y ≡ z → heard.session ≡ next
    → Follows w old next
    → orderly.Leaves x (with_session z s next) s next → Follows_to w x s y heard
settle w x s old there is z y next heard to goes follows leaves =
    subst (λ v. IsOrderly w (with_session v s heard.session)) (sym to)
    (subst (λ n. IsOrderly w (with_session z s n)) (sym goes)
    (follows_orderly w x (with_session z s next) s old next there follows leaves is))

-- the same that is heard has the same session
pub session_of : {heard next : Heard} → heard ≡ next → heard.session ≡ next.session
session_of e = ap (λ (one : Heard). one.session) e

-- one claim changed to one alike
pub leaves_claim : (x : World) (s : ℕ) (id : List ℕ) (claim : Claim) (next : Session)
    → IsAlike (x.state.claim id) claim
    → orderly.Leaves x (with_session (with_claim x id claim) s next) s next
leaves_claim x s id claim next same = record {
  puts = λ n. refl;
  claims = put_alike x.state (with_session (with_claim x id claim) s next).state id claim
      (λ k. refl) same;
  begun = λ g. refl;
  kept = refl;
  newest = refl;
  queue = λ g. refl;
  writer = λ g. refl;
}

-- a session that leaves goes on with what is in its hand
leaving_follows : (w : Terms) (old after : Session) → Follows w old after
    → Follows w old (in_phase after Leaving)
leaving_follows w old after f = record {
  runs = f.runs;
  peer = f.peer;
  hand = f.hand;
  carries = λ e. absurd (true≢false e);
  holds = λ article has. absurd (none-some article has);
}

-- CHECK and IHAVE, answered
offer_follows : (w : Terms) (old after : Session) (transfer : Transfer) (id : List ℕ)
    (told : OfferAnswer) → Follows w old after
    → after.hand ≡ None → Follows w old (offer_heard after transfer id told).session
offer_follows w old after TakesThis id Wanted f none =
    f
offer_follows w old after Has id Wanted f none =
    in_idle_phase w old after (AwaitsBlock Has (Some id)) f none refl
offer_follows w old after transfer id Later f none =
    with_others w old after after.unread (without_offer after.offers id) f
offer_follows w old after transfer id Seen f none =
    with_others w old after after.unread (without_offer after.offers id) f

-- a token that was looked up
look_follows : (w : Terms) (old after : Session) (part : Part) (id : List ℕ) (token : Option Token)
    → Follows w old after
    → after.hand ≡ None → Follows w old (look_heard after part id token).session
look_follows w old after part id None f none = f
look_follows w old after part id (Some token) f none =
    in_idle_phase w old after (Fetches (OfId part id) token 0) f none refl

-- an outcome
outcome_follows : (w : Terms) (old after : Session) (transfer : Transfer) (id : List ℕ)
    (outcome : Outcome) → Follows w old after
    → after.hand ≡ None → Follows w old (outcome_heard after transfer id outcome).session
outcome_follows w old after TakesThis id IsKept f none = in_idle_phase w old after Ready f none refl
outcome_follows w old after TakesThis id HasFailed f none = leaving_follows w old after f
outcome_follows w old after Has id IsKept f none = in_idle_phase w old after Ready f none refl
outcome_follows w old after Has id HasFailed f none = in_idle_phase w old after Ready f none refl

-- the slot that was looked at
slot_follows : (w : Terms) (old after : Session) (transfer : Transfer) (id : List ℕ)
    (outcome : Option Outcome) → Follows w old after
    → after.hand ≡ None → Follows w old (slot_heard after transfer id outcome).session
slot_follows w old after transfer id None f none = f
slot_follows w old after transfer id (Some outcome) f none =
    outcome_follows w old after transfer id outcome f none

-- a token that was read
read_follows : (w : Terms) (old after : Session) (asked : Asked) (token : Token) (had : ℕ)
    (found : Fetched) (more : Bool) (heard : Heard)
    → Follows w old after → after.hand ≡ None → ReadHeard after asked token had found more heard
    → Follows w old heard.session
read_follows w old after asked token had found true heard f none h =
    subst (Follows w old) (sym (ap (λ (one : Heard). one.session) h))
    (in_idle_phase w old after (Fetches asked token (had + 1)) f none refl)
read_follows w old after asked token had found false heard f none h =
    subst (Follows w old) (sym (ap (λ (one : Heard). one.session) h.2)) f

-- devices may have failed
pub quiet : (x : World) (s : ℕ) (failures : ℕ → ℕ) (next : Session)
    → orderly.Leaves x (with_session (with_failures x failures) s next) s next
quiet x s failures next = record {
  puts = λ n. refl;
  claims = alike x.state (with_session x s next).state (λ id. refl);
  begun = λ g. refl;
  kept = refl;
  newest = refl;
  queue = λ g. refl;
  writer = λ g. refl;
}

-- a fetch, whichever way it goes
read_orderly : (w : Terms) (x : World) (s : ℕ) (old : Session) → x.state.session s ≡ Some old
    → IsOrderly w x
    → (token : Token) (answer : Answer) (y : World) (heard : Heard) → Follows w old heard.session
    → Reading w x token answer y → Follows_to w x s y heard
read_orderly w x s old there is token answer y heard f (IsFound failures rises e to) =
    settle w x s old there is (with_failures x failures) y heard.session heard to refl f
    (quiet x s failures heard.session)
read_orderly w x s old there is token answer y heard f (HasNotRead failures none failed e to) =
    settle w x s old there is (with_failures x failures) y heard.session heard to refl f
    (quiet x s failures heard.session)

-- a feed's queue was taken
pub leaves_feed : (x : World) (s ring feed most : ℕ) (next : Session)
    → orderly.Leaves x (with_session (queue_taken x ring feed most) s next) s next
leaves_feed x s ring feed most next = record {
  puts = λ n. refl;
  claims = alike x.state (with_session (queue_taken x ring feed most) s next).state (λ id. refl);
  begun = λ g. refl;
  kept = refl;
  newest = refl;
  queue = λ g. refl;
  writer = λ g. refl;
}

-- a slot was emptied
leaves_slot : (x : World) (s : ℕ) (next : Session)
    → orderly.Leaves x (with_session (untold x s) s next) s next
leaves_slot x s next = record {
  puts = λ n. refl;
  claims = alike x.state (with_session (untold x s) s next).state (λ id. refl);
  begun = λ g. refl;
  kept = refl;
  newest = refl;
  queue = λ g. refl;
  writer = λ g. refl;
}

-- an accepted article, by the claim on its id
take_orderly : (w : Terms) (x : World) (s : ℕ) (old after : Session) → x.state.session s ≡ Some old
    → IsOrderly w x
    → Follows w old after → after.hand ≡ None
    → (transfer : Transfer) (id : List ℕ) (article : Accepted) → IsSoundArticle w article
    → (claim : Claim) → x.state.claim id ≡ claim → (y : World) (heard : Heard)
    → y ≡ with_claim x id (after_take s article claim)
    → heard ≡ take_heard s after transfer id article (take_answer s claim)
    → Follows_to w x s y heard
take_orderly w x s old after there is f none transfer id article sound claim at y heard to hears =
    by claim transfer at to hears
  where
    mine : (transfer : Transfer) → IsFree x.state id
        → y ≡ with_claim x id (Storing s article Waiting)
        → heard ≡ take_heard s after transfer id article Mine → Follows_to w x s y heard
    mine transfer free to hears =
        let next : Session = record after {
          phase = Waits transfer id;
          hand =
              Some (job_of s id article);
        } in
        subst (λ v. IsOrderly w (with_session v s heard.session)) (sym to)
        (subst (λ n. IsOrderly w (with_session (with_claim x id (Storing s article Waiting)) s n))
        (sym (session_of hears))
        (taken_orderly w x s old next id article there f.runs free (sym f.hand ∙ none) f.peer refl
        refl refl sound is))

    stays : (claim : Claim) (next : Session) → x.state.claim id ≡ claim → y ≡ with_claim x id claim
        → heard.session ≡ next
        → Follows w old next → Follows_to w x s y heard
    stays claim next at to hears follows =
        settle w x s old there is (with_claim x id claim) y next heard to hears follows
        (leaves_claim x s id claim next (subst (λ c. IsAlike c claim) (sym at) (is_same claim)))

    holding : Follows w old (in_phase after (Holds id article))
    holding = record {
      runs = f.runs;
      peer = f.peer;
      hand = f.hand;
      carries = λ e. none;
      holds = λ other has. subst (IsSoundArticle w) (same_Some article other has) sound;
    }

    by : (claim : Claim) (transfer : Transfer) → x.state.claim id ≡ claim
        → y ≡ with_claim x id (after_take s article claim)
        → heard ≡ take_heard s after transfer id article (take_answer s claim)
        → Follows_to w x s y heard
    by Unknown transfer at to hears =
        mine transfer (λ t other stage e. absurd (cc (at, e))) to hears
    by (Offered one since) transfer at to hears =
        mine transfer (λ t other stage e. absurd (cc (at, e))) to hears
    by (Storing one other stage) TakesThis at to hears =
        stays (Storing one other stage) (in_phase after (Holds id article)) at to (session_of hears)
        holding
    by (Storing one other stage) Has at to hears =
        stays (Storing one other stage) after at to (session_of hears) f
    by (Stored token moment) transfer at to hears =
        stays (Stored token moment) after at to (session_of hears) f
    by (Refused moment) transfer at to hears =
        stays (Refused moment) after at to (session_of hears) f

-- a push, where there is room or not
push_orderly : (w : Terms) (x : World) (s : ℕ) (old after : Session) → x.state.session s ≡ Some old
    → IsOrderly w x
    → Follows w old after → (job : Job) → after.hand ≡ Some job
    → (room : Bool) (answer : Answer) (y : World) (heard : Heard)
    → Pushing x job room answer y
    → (told : Bool) → answer ≡ ToPush told → heard ≡ push_heard after told
    → Follows_to w x s y heard
push_orderly w x s old after there is f job has true answer y heard pushes told says hears =
    let room : told ≡ true = cc (says, pushes.0) in
    let next : Session = record after { hand = None } in
    let session : heard.session ≡ next =
    ap (λ (one : Heard). one.session) (hears ∙ ap (push_heard after) room) in
    subst (λ v. IsOrderly w (with_session v s heard.session)) (sym pushes.1)
    (subst (λ n. IsOrderly w (with_session (pushed x job) s n)) (sym session)
    (handed_orderly w x s old next job there f.runs (sym f.hand ∙ has) f.peer refl f.holds is))
push_orderly w x s old after there is f job has false answer y heard pushes told says hears =
    let room : told ≡ false = cc (says, pushes.0) in
    let session : heard.session ≡ after =
    ap (λ (one : Heard). one.session) (hears ∙ ap (push_heard after) room) in
    settle w x s old there is x y after heard pushes.1 session f (leaves_all x s after)

-- each ask
asked_orderly : (w : Terms) (x : World) (s now : ℕ) (old after : Session)
    → x.state.session s ≡ Some old → IsOrderly w x
    → Follows w old after → (ask : Ask) → AskFits w after ask
    → (answer : Answer) (y : World) (heard : Heard)
    → Shares w x s now ask answer y → Hears s after ask answer heard → Follows_to w x s y heard
asked_orderly w x s now old after there is f Rests fits answer y heard shares hears =
    settle w x s old there is x y after heard shares.1 (session_of hears) f (leaves_all x s after)
asked_orderly w x s now old after there is f GoesOn fits answer y heard shares hears =
    settle w x s old there is x y after heard shares.1 (session_of hears) f (leaves_all x s after)
asked_orderly w x s now old after there is f (Says reply) fits answer y heard shares hears =
    settle w x s old there is x y after heard shares.1 (session_of hears) f (leaves_all x s after)
asked_orderly w x s now old after there is f (Leaves reply) fits answer y heard shares hears =
    settle w x s old there is x y (in_phase after Leaving) heard shares.1 (session_of hears)
    (leaving_follows w old after f) (leaves_all x s (in_phase after Leaving))
asked_orderly w x s now old after there is f (Offers transfer id) fits answer y heard shares hears =
    let next = (offer_heard after transfer id hears.0).session in
    settle w x s old there is (with_claim x id (after_offer s now (known_at w x now id))) y next
    heard
    shares.1 (session_of hears.2)
    (offer_follows w old after transfer id hears.0 f fits)
    (leaves_claim x s id (after_offer s now (known_at w x now id)) next
    (offer_alike w.offers s now (x.state.claim id)))
asked_orderly w x s now old after there is f (Looks part id) fits answer y heard shares hears =
    let next = (look_heard after part id hears.0).session in
    settle w x s old there is x y next heard shares.1 (session_of hears.2)
    (look_follows w old after part id hears.0 f fits) (leaves_all x s next)
asked_orderly w x s now old after there is f (Reads asked token had) fits answer y heard shares
    hears =
    read_orderly w x s old there is token answer y heard
    (read_follows w old after asked token had hears.0 (goes_on asked token had hears.0) heard f fits
    hears.2) shares
asked_orderly w x s now old after there is f (TakesQueue feed most) fits answer y heard shares
    hears =
    settle w x s old there is (queue_taken x (ring_of (slice_get w.feeds feed)) feed most) y after
    heard shares.1
    (session_of hears.3) f (leaves_feed x s (ring_of (slice_get w.feeds feed)) feed most after)
asked_orderly w x s now old after there is f (Refuses transfer id reason) fits answer y heard shares
    hears =
    settle w x s old there is (with_claim x id (after_refuse s now (known_at w x now id))) y after
    heard shares.1 (session_of hears) f
    (leaves_claim x s id (after_refuse s now (known_at w x now id)) after
    (refuse_alike w.offers s now (x.state.claim id)))
asked_orderly w x s now old after there is f (Takes transfer id article) fits answer y heard shares
    hears =
    let told : hears.0 ≡ take_answer s (x.state.claim id) = cc (hears.1, shares.0) in
    take_orderly w x s old after there is f fits.0 transfer id article fits.1 (x.state.claim id)
    refl y heard shares.1
    (hears.2 ∙ ap (take_heard s after transfer id article) told)
asked_orderly w x s now old after there is f (Pushes job) fits answer y heard shares hears =
    push_orderly w x s old after there is f job fits
    (nat_lt (length (x.work.queue job.article.group)) queue_limit) answer y heard
    shares hears.0 hears.1 hears.2
asked_orderly w x s now old after there is f (LooksInSlot transfer id) fits answer y heard shares
    hears =
    let next = (slot_heard after transfer id hears.0).session in
    settle w x s old there is (untold x s) y next heard shares.1 (session_of hears.2)
    (slot_follows w old after transfer id hears.0 f fits) (leaves_slot x s next)
asked_orderly w x s now old after there is f (Releases id) fits answer y heard shares hears =
    settle w x s old there is (with_claim x id (after_release s (x.state.claim id))) y after heard
    shares.1 (session_of hears) f
    (leaves_claim x s id (after_release s (x.state.claim id)) after
    (release_alike s (x.state.claim id)))
asked_orderly w x s now old after there is f Ends fits answer y heard shares hears =
    settle w x s old there is x y (in_phase after Ended) heard shares.1 (session_of hears)
    (in_idle_phase w old after Ended f fits refl) (leaves_all x s (in_phase after Ended))

-- a Turn of a world in order leads to one
pub turn_orderly : (w : Terms) → IsSound w → (x : World) (s now : ℕ) (output : Output) (x' : World)
    → (turn : Turns w x s now output x') → is_running turn.session.phase ≡ true → IsOrderly w x
    → IsOrderly w x'
turn_orderly w sound x s now output x' turn runs is =
    let fits = due_fits w sound turn.session (session_fits w x is s turn.session turn.there runs)
    now turn.due turn.is_due in
    subst (IsOrderly w) (sym turn.after)
    (asked_orderly w x s now turn.session turn.due.after turn.there is fits.follows turn.due.ask
    fits.asks
    turn.answer turn.between turn.heard turn.shares turn.hears)
