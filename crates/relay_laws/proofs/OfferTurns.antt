-- What a Turn does to claims and to the open offers of its session.
use Rattle.std.proofs.Common.{◌≡◌, ◌∙◌, ℕ, nat_lt, Bool, true, false}
use Rattle.std.proofs.Common.{List}
use Rattle.std.proofs.Common.{◌∷◌, length, Option, None, Some, ◌⊎◌, inl, inr}
use Rattle.std.proofs.Common.{refl}
use Rattle.std.proofs.Common.{sym, ap}
use Rattle.news_terms.specs.Token.{Token}
use Rattle.relay_model.specs.Asks.{Ask, Rests, GoesOn, Says, Leaves, Offers, Looks, Reads}
use Rattle.relay_model.specs.Asks.{TakesQueue, Refuses, Takes, Pushes, LooksInSlot, Releases, Ends}
use Rattle.relay_model.specs.Asks.{without_offer}
use Rattle.relay_model.specs.Claims.{Accepted, Claim}
use Rattle.relay_model.specs.Claims.{OfferAnswer, Wanted, Later, Seen, TakeAnswer, Mine, Held, Had}
use Rattle.relay_model.specs.Claims.{offer_answer, after_offer, after_take, after_refuse}
use Rattle.relay_model.specs.Claims.{after_release}
use Rattle.relay_model.specs.Fetches.{Fetched}
use Rattle.relay_model.specs.Hears.{Heard, Hears, ReadHeard, goes_on, offer_heard, look_heard}
use Rattle.relay_model.specs.Hears.{take_heard, slot_heard, push_heard}
use Rattle.relay_model.specs.Run.{Turns}
use Rattle.relay_model.specs.Shares.{known_at, Answer, Shares, Reading, IsFound, HasNotRead}
use Rattle.relay_model.specs.Shares.{Pushing}
use Rattle.relay_model.specs.State.{OpenOffer, Session, Job, Transfer, TakesThis, Has, Asked}
use Rattle.relay_model.specs.State.{put_id}
use Rattle.relay_model.specs.Terms.{Terms, queue_limit}
use Rattle.relay_model.specs.World.{World, Output, Outcome, IsKept, HasFailed}
use Rattle.relay_laws.proofs.OfferDues.{DueOffers, due_offers}
use Rattle.relay_laws.proofs.OfferSteps.{Touches, offers_left}
use Rattle.relay_laws.proofs.OfferSteps as steps

-- what a Turn does to claims, and to the open offers of its session
pub data TurnOffers (x y : World) (s : ℕ) (before after : List OpenOffer) : Type 0 where
  Same : ((k : List ℕ) → y.state.claim k ≡ x.state.claim k) → after ≡ before
      → TurnOffers x y s before after
  One : (id : List ℕ) (claim : Claim)
      → ((k : List ℕ) → y.state.claim k ≡ put_id x.state.claim id claim k)
      → Touches s id (x.state.claim id) claim before after → TurnOffers x y s before after

-- the open offers of the session that hears
offers_of : (heard next : Heard) → heard ≡ next → heard.session.offers ≡ next.session.offers
offers_of heard next e = ap (λ (one : Heard). one.session.offers) e

-- an offer that was answered
heard_answered : (session : Session) (transfer : Transfer) (id : List ℕ) (told : OfferAnswer)
    → (offer_heard session transfer id told).session.offers
    ≡ offers_left told session.offers id
heard_answered session TakesThis id Wanted = refl
heard_answered session Has id Wanted = refl
heard_answered session TakesThis id Later = refl
heard_answered session Has id Later = refl
heard_answered session TakesThis id Seen = refl
heard_answered session Has id Seen = refl

-- a look
heard_looked : (session : Session) (part : _) (id : List ℕ) (token : Option Token)
    → (look_heard session part id token).session.offers ≡ session.offers
heard_looked session part id None = refl
heard_looked session part id (Some token) = refl

-- a read
heard_read : (session : Session) (asked : Asked) (token : Token) (had : ℕ) (found : Fetched)
    (more : Bool) (heard : Heard) → ReadHeard session asked token had found more heard
    → heard.session.offers ≡ session.offers
heard_read session asked token had found true heard hears = offers_of heard _ hears
heard_read session asked token had found false heard hears = offers_of heard _ hears.2

-- an accepted article
heard_taken : (s : ℕ) (session : Session) (transfer : Transfer) (id : List ℕ) (article : Accepted)
    (told : TakeAnswer)
    → (take_heard s session transfer id article told).session.offers ≡ session.offers
heard_taken s session transfer id article Mine = refl
heard_taken s session transfer id article Had = refl
heard_taken s session TakesThis id article Held = refl
heard_taken s session Has id article Held = refl

-- a push
heard_pushed : (session : Session) (room : Bool)
    → (push_heard session room).session.offers ≡ session.offers
heard_pushed session true = refl
heard_pushed session false = refl

-- the slot
heard_slot : (session : Session) (transfer : Transfer) (id : List ℕ) (outcome : Option Outcome)
    → (slot_heard session transfer id outcome).session.offers ≡ session.offers
heard_slot session transfer id None = refl
heard_slot session TakesThis id (Some IsKept) = refl
heard_slot session TakesThis id (Some HasFailed) = refl
heard_slot session Has id (Some IsKept) = refl
heard_slot session Has id (Some HasFailed) = refl

-- the claims of a world that is another
claims_of : (x y z : World) → y ≡ z → ((k : List ℕ) → z.state.claim k ≡ x.state.claim k)
    → (k : List ℕ) → y.state.claim k ≡ x.state.claim k
claims_of x y z e same k = ap (λ (one : World). one.state.claim k) e ∙ same k

-- a read changes no claim
reading_claims : (w : Terms) (x : World) (token : Token) (answer : Answer) (y : World)
    → Reading w x token answer y → (k : List ℕ) → y.state.claim k ≡ x.state.claim k
reading_claims w x token answer y (IsFound failures rises says e) =
    claims_of x y _ e (λ k. refl)
reading_claims w x token answer y (HasNotRead failures none failed says e) =
    claims_of x y _ e (λ k. refl)

-- nor does a push
pushing_claims : (x : World) (job : Job) (room : Bool) (answer : Answer) (y : World)
    → Pushing x job room answer y → (k : List ℕ) → y.state.claim k ≡ x.state.claim k
pushing_claims x job true answer y pushes = claims_of x y _ pushes.1 (λ k. refl)
pushing_claims x job false answer y pushes = claims_of x y _ pushes.1 (λ k. refl)

-- by what is asked
asked_offers : (w : Terms) (x : World) (s now : ℕ) (before : List OpenOffer) (after : Session)
    (ask : Ask) → DueOffers now before ask after.offers → (answer : Answer) (y : World)
    (heard : Heard)
    → Shares w x s now ask answer y → Hears s after ask answer heard
    → TurnOffers x y s before heard.session.offers
asked_offers w x s now before after Rests due answer y heard shares hears =
    Same (claims_of x y x shares.1 (λ k. refl)) (offers_of heard _ hears ∙ due)
asked_offers w x s now before after GoesOn due answer y heard shares hears =
    Same (claims_of x y x shares.1 (λ k. refl)) (offers_of heard _ hears ∙ due)
asked_offers w x s now before after (Says reply) due answer y heard shares hears =
    Same (claims_of x y x shares.1 (λ k. refl)) (offers_of heard _ hears ∙ due)
asked_offers w x s now before after (Leaves reply) due answer y heard shares hears =
    Same (claims_of x y x shares.1 (λ k. refl)) (offers_of heard _ hears ∙ due)
asked_offers w x s now before after (Offers transfer id) due answer y heard shares hears =
    let told : hears.0 ≡ offer_answer s (known_at w x now id) = cc (shares.0, hears.1) in
    One id (after_offer s now (known_at w x now id))
    (λ k. ap (λ (one : World). one.state.claim k) shares.1)
    (steps.Offers w.offers now refl
    (offers_of heard _ hears.2 ∙ heard_answered after transfer id hears.0
    ∙ ap (λ one. offers_left one after.offers id) told
    ∙ ap (λ list. offers_left (offer_answer s (known_at w x now id)) list id) due))
asked_offers w x s now before after (Looks part id) due answer y heard shares hears =
    Same (claims_of x y x shares.1 (λ k. refl))
    (offers_of heard _ hears.2 ∙ heard_looked after part id hears.0 ∙ due)
asked_offers w x s now before after (Reads asked token had) due answer y heard shares hears =
    Same (reading_claims w x token answer y shares)
    (heard_read after asked token had hears.0 (goes_on asked token had hears.0) heard hears.2
    ∙ due)
asked_offers w x s now before after (TakesQueue feed most) due answer y heard shares hears =
    Same (claims_of x y _ shares.1 (λ k. refl)) (offers_of heard _ hears.3 ∙ due)
asked_offers w x s now before after (Refuses transfer id reason) due answer y heard shares hears =
    One id (after_refuse s now (known_at w x now id))
    (λ k. ap (λ (one : World). one.state.claim k) shares.1)
    (steps.Refuses w.offers now refl (offers_of heard _ hears ∙ due))
asked_offers w x s now before after (Takes transfer id article) due answer y heard shares hears =
    let same = offers_of heard _ hears.2 ∙ heard_taken s after transfer id article hears.0 in
    One id (after_take s article (x.state.claim id))
    (λ k. ap (λ (one : World). one.state.claim k) shares.1)
    (steps.Takes article refl (either same due))
  where
    either : heard.session.offers ≡ after.offers
        → (after.offers ≡ without_offer before id) ⊎ (after.offers ≡ before)
        → (heard.session.offers ≡ without_offer before id) ⊎ (heard.session.offers ≡ before)
    either same (inl one) = inl (same ∙ one)
    either same (inr one) = inr (same ∙ one)
asked_offers w x s now before after (Pushes job) due answer y heard shares hears =
    Same (pushing_claims x job (nat_lt (length (x.work.queue job.article.group)) queue_limit)
    answer y shares)
    (offers_of heard _ hears.2 ∙ heard_pushed after hears.0 ∙ due)
asked_offers w x s now before after (LooksInSlot transfer id) due answer y heard shares hears =
    Same (claims_of x y _ shares.1 (λ k. refl))
    (offers_of heard _ hears.2 ∙ heard_slot after transfer id hears.0 ∙ due)
asked_offers w x s now before after (Releases id) due answer y heard shares hears =
    One id (after_release s (x.state.claim id))
    (λ k. ap (λ (one : World). one.state.claim k) shares.1)
    (steps.Releases due.0 refl
    (due.1 ∙ ap (λ list. record { id = id; since = due.0 } ∷ list) (sym (offers_of heard _ hears))))
asked_offers w x s now before after Ends due answer y heard shares hears =
    Same (claims_of x y x shares.1 (λ k. refl)) (offers_of heard _ hears ∙ due)

-- a read changes no session
reading_sessions : (w : Terms) (x : World) (token : Token) (answer : Answer) (y : World)
    → Reading w x token answer y → (t : ℕ) → y.state.session t ≡ x.state.session t
reading_sessions w x token answer y (IsFound failures rises says e) t =
    ap (λ (one : World). one.state.session t) e
reading_sessions w x token answer y (HasNotRead failures none failed says e) t =
    ap (λ (one : World). one.state.session t) e

-- nor does a push
pushing_sessions : (x : World) (job : Job) (room : Bool) (answer : Answer) (y : World)
    → Pushing x job room answer y → (t : ℕ) → y.state.session t ≡ x.state.session t
pushing_sessions x job true answer y pushes t = ap (λ (one : World). one.state.session t) pushes.1
pushing_sessions x job false answer y pushes t = ap (λ (one : World). one.state.session t) pushes.1

-- what is shared changes no session
pub shared_sessions : (w : Terms) (x : World) (s now : ℕ) (ask : Ask) (answer : Answer) (y : World)
    → Shares w x s now ask answer y → (t : ℕ) → y.state.session t ≡ x.state.session t
shared_sessions w x s now Rests answer y e t = ap (λ (one : World). one.state.session t) e.1
shared_sessions w x s now GoesOn answer y e t = ap (λ (one : World). one.state.session t) e.1
shared_sessions w x s now (Says reply) answer y e t =
    ap (λ (one : World). one.state.session t) e.1
shared_sessions w x s now (Leaves reply) answer y e t =
    ap (λ (one : World). one.state.session t) e.1
shared_sessions w x s now (Offers transfer id) answer y e t =
    ap (λ (one : World). one.state.session t) e.1
shared_sessions w x s now (Looks part id) answer y e t =
    ap (λ (one : World). one.state.session t) e.1
shared_sessions w x s now (Reads asked token had) answer y e t =
    reading_sessions w x token answer y e t
shared_sessions w x s now (TakesQueue feed most) answer y e t =
    ap (λ (one : World). one.state.session t) e.1
shared_sessions w x s now (Refuses transfer id reason) answer y e t =
    ap (λ (one : World). one.state.session t) e.1
shared_sessions w x s now (Takes transfer id article) answer y e t =
    ap (λ (one : World). one.state.session t) e.1
shared_sessions w x s now (Pushes job) answer y e t =
    pushing_sessions x job (nat_lt (length (x.work.queue job.article.group)) queue_limit) answer y e
    t
shared_sessions w x s now (LooksInSlot transfer id) answer y e t =
    ap (λ (one : World). one.state.session t) e.1
shared_sessions w x s now (Releases id) answer y e t =
    ap (λ (one : World). one.state.session t) e.1
shared_sessions w x s now Ends answer y e t = ap (λ (one : World). one.state.session t) e.1

-- a Turn
pub turn_offers : (w : Terms) (x : World) (s now : ℕ) (output : Output) (x' : World)
    → (turn : Turns w x s now output x')
    → TurnOffers x turn.between s turn.session.offers turn.heard.session.offers
turn_offers w x s now output x' turn =
    asked_offers w x s now turn.session.offers turn.due.after turn.due.ask
    (due_offers w turn.session now turn.due turn.is_due) turn.answer turn.between turn.heard
    turn.shares turn.hears
