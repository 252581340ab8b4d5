-- Offers are open: a message-id that is offered to a session is one of its open offers.
use Rattle.std.proofs.Common.{◌≡◌, ◌∙◌, ℕ, nat_le, ◌==◌, ◌&&◌, ◌+◌, ◌-◌, nat_lt, Bool, true, false}
use Rattle.std.proofs.Common.{List, length, Option, None, Some, ◌⊎◌, inl, inr}
use Rattle.std.proofs.Common.{if◌then◌else◌, refl, sym, ap, subst}
use Rattle.std.proofs.lemmas.Bool.{cases_eq}
use Rattle.std.proofs.lemmas.Option.{same_Some, none-some}
use Rattle.std.specs.Prelude.{slice_get}
use Rattle.news_terms.specs.Places.{Buffer}
use Rattle.relay_model.specs.Asks.{is_open}
use Rattle.relay_model.specs.Claims.{Claim, Unknown, Offered, Storing, Stored, Refused, Passed}
use Rattle.relay_model.specs.Claims.{is_passed, after_expire, after_restart}
use Rattle.relay_model.specs.Invariants.{IsWell}
use Rattle.relay_model.specs.Run.{Event, Open, Bytes, Turn, Write, Break, Expire, Restart, Step}
use Rattle.relay_model.specs.Run.{Does}
use Rattle.relay_model.specs.Run.{IsRefused, WantsMemory, IsDone, Turns, Restarts, IsBusy}
use Rattle.relay_model.specs.Run.{HasNoRoom}
use Rattle.relay_model.specs.Run.{HasNot, refusal, opened, new_session, expired, reads_front}
use Rattle.relay_model.specs.Run.{forgotten, forgetting, is_taken, shard_of}
use Rattle.relay_model.specs.Run as run
use Rattle.relay_model.specs.State.{State, Session, put_id, put_at}
use Rattle.relay_model.specs.Terms.{Terms}
use Rattle.relay_model.specs.World.{World, Output, Expirer, Forgetting, with_session}
use Rattle.relay_model.specs.World as world
use Rattle.relay_model.specs.Writers.{Writes, NoJob, Pops, HasBegun, FindsWorn, WritesBlock}
use Rattle.relay_model.specs.Writers.{FailsToWrite, HasStored, Settles, Closes, Forgets, TellsKept}
use Rattle.relay_model.specs.Writers.{TellsFailed}
use Rattle.relay_facts.specs.Sound.{IsSound}
use Rattle.relay_facts.proofs.Puts.{put_id_both, put_at_here, put_at_there, same_id}
use Rattle.relay_laws.specs.Laws.{Always, OffersAreOpen, IsOpenOffer}
use Rattle.relay_laws.proofs.OfferSteps.{IsOffered, others_stay, offered_after}
use Rattle.relay_laws.proofs.OfferTurns.{TurnOffers, turn_offers, shared_sessions}
use Rattle.relay_laws.proofs.OfferTurns as turns
use Rattle.relay_laws.proofs.Runs.{always_keeps}

-- an open offer of a session that is there as before
offer_moves : (x y : World) (s : ℕ) (id : List ℕ) → y.state.session s ≡ x.state.session s
    → IsOpenOffer x s id → IsOpenOffer y s id
offer_moves x y s id same is =
    record { session = is.session; there = same ∙ is.there; open_there = is.open_there }

-- claims of which each offer was made before, with the same sessions
offers_fewer : (x y : World)
    → ((id : List ℕ) (s since : ℕ) → y.state.claim id ≡ Offered s since
    → x.state.claim id ≡ Offered s since)
    → ((s : ℕ) → y.state.session s ≡ x.state.session s) → OffersAreOpen x → OffersAreOpen y
offers_fewer x y earlier sessions are_open id s since e =
    offer_moves x y s id (sessions s) (are_open id s since (earlier id s since e))

-- an open offer where one session goes on with offers that it has still
offer_stays : (x y : World) (s : ℕ) (old next : Session) → x.state.session s ≡ Some old
    → ((t : ℕ) → y.state.session t ≡ put_at x.state.session s (Some next) t) → (id : List ℕ)
    → (is_open old.offers id ≡ true → is_open next.offers id ≡ true) → (t : ℕ)
    → IsOpenOffer x t id → IsOpenOffer y t id
offer_stays x y s old next was puts id stays t is = by_number (cases_eq t s)
  where
    by_number : (t ≡ s) ⊎ (t ≡ s → ⊥) → IsOpenOffer y t id
    by_number (inl same) =
        let one : is.session ≡ old =
        same_Some is.session old (sym is.there ∙ ap x.state.session same ∙ was) in
        record {
          session = next;
          there = puts t ∙ put_at_here x.state.session s (Some next) t same;
          open_there = stays (sym (ap (λ (c : Session). is_open c.offers id) one) ∙ is.open_there);
        }
    by_number (inr other) =
        offer_moves x y t id (puts t ∙ put_at_there x.state.session s (Some next) t other) is

-- a Turn
turn_kept : (w : Terms) (x : World) (s now : ℕ) (output : Output) (x' : World)
    → Turns w x s now output x' → OffersAreOpen x → OffersAreOpen x'
turn_kept w x s now output x' turn are_open = by (turn_offers w x s now output x' turn)
  where
    between : World
    between = turn.between

    claims : (k : List ℕ) → x'.state.claim k ≡ between.state.claim k
    claims k = ap (λ (one : World). one.state.claim k) turn.after

    puts : (t : ℕ) → x'.state.session t ≡ put_at x.state.session s (Some turn.heard.session) t
    puts t =
        ap (λ (one : World). one.state.session t) turn.after
        ∙ by_number (cases_eq t s)
      where
        by_number : (t ≡ s) ⊎ (t ≡ s → ⊥)
            → put_at between.state.session s (Some turn.heard.session) t
            ≡ put_at x.state.session s (Some turn.heard.session) t
        by_number (inl same) =
            put_at_here between.state.session s (Some turn.heard.session) t same
            ∙ sym (put_at_here x.state.session s (Some turn.heard.session) t same)
        by_number (inr other) =
            put_at_there between.state.session s (Some turn.heard.session) t other
            ∙ shared_sessions w x s now turn.due.ask turn.answer between turn.shares t
            ∙ sym (put_at_there x.state.session s (Some turn.heard.session) t other)

    by : TurnOffers x between s turn.session.offers turn.heard.session.offers → OffersAreOpen x'
    by (turns.Same same offers) id t since e =
        offer_stays x x' s turn.session turn.heard.session turn.there puts id
        (λ is. ap (λ list. is_open list id) offers ∙ is) t
        (are_open id t since (sym (same id) ∙ sym (claims id) ∙ e))
    by (turns.One id claim same touches) other t since e =
        put_id_both (λ c. c ≡ Offered t since → IsOpenOffer x' t other) x.state.claim id claim other
        (λ here is.
        itself other (same_id other id here) t since
        (offered_after s id (x.state.claim id) claim turn.session.offers turn.heard.session.offers
        touches t since is))
        (λ differs is.
        offer_stays x x' s turn.session turn.heard.session turn.there puts other
        (others_stay s id (x.state.claim id) claim turn.session.offers turn.heard.session.offers
        touches other differs) t (are_open other t since is))
        (sym (same other) ∙ sym (claims other) ∙ e)
      where
        itself : (other : List ℕ) → other ≡ id → (t since : ℕ)
            → IsOffered s t since (x.state.claim id) turn.heard.session.offers id
            → IsOpenOffer x' t other
        itself other here t since (inl now) =
            record {
              session = turn.heard.session;
              there = puts t ∙ put_at_here x.state.session s (Some turn.heard.session) t now.0;
              open_there = ap (is_open turn.heard.session.offers) here ∙ now.1;
            }
        itself other here t since (inr before) =
            offer_moves x x' t other
            (puts t ∙ put_at_there x.state.session s (Some turn.heard.session) t before.0)
            (subst (IsOpenOffer x t) (sym here) (are_open id t since before.1))

-- one id's claim becomes one that is no offer, and the sessions stay
claim_kept : (x x' : World) (id : List ℕ) (claim : Claim)
    → ((t since : ℕ) → claim ≡ Offered t since → ⊥)
    → ((k : List ℕ) → x'.state.claim k ≡ put_id x.state.claim id claim k)
    → ((t : ℕ) → x'.state.session t ≡ x.state.session t) → OffersAreOpen x → OffersAreOpen x'
claim_kept x x' id claim never claims sessions =
    offers_fewer x x'
    (λ other t since e.
    put_id_both (λ c. c ≡ Offered t since → x.state.claim other ≡ Offered t since) x.state.claim id
    claim other
    (λ same is. absurd (never t since is)) (λ differs is. is) (sym (claims other) ∙ e))
    sessions

-- a world that has the same state
same_kept : (x y x' : World) → x' ≡ y → y.state ≡ x.state → OffersAreOpen x → OffersAreOpen x'
same_kept x y x' e same are_open =
    offers_fewer x x'
    (λ id t since is. sym (ap (λ (one : World). one.state.claim id) e
    ∙ ap (λ (σ : State). σ.claim id) same) ∙ is)
    (λ t. ap (λ (one : World). one.state.session t) e ∙ ap (λ (σ : State). σ.session t) same)
    are_open

-- a Write
write_kept : (w : Terms) (x : World) (g now : ℕ) (x' : World) → Writes w x g now x'
    → OffersAreOpen x → OffersAreOpen x'
write_kept w x g now x' (NoJob idle empty e) = same_kept x x x' e refl
write_kept w x g now x' (Pops job rest idle queue e) = same_kept x _ x' e refl
write_kept w x g now x' (HasBegun job token τ has begins e) =
    claim_kept x x' job.id _ (λ t since is. cc)
    (λ k. ap (λ (one : World). one.state.claim k) e ∙ ap (λ (σ : State). σ.claim k) begins.after)
    (λ t. ap (λ (one : World). one.state.session t) e
    ∙ ap (λ (σ : State). σ.session t) begins.after)
write_kept w x g now x' (FindsWorn job has worn e) = same_kept x _ x' e refl
write_kept w x g now x' (WritesBlock job token written failures has left rises e) =
    same_kept x _ x' e refl
write_kept w x g now x' (FailsToWrite job token written failures τ has left failed fails e) =
    claim_kept x x' job.id _ (λ t since is. cc)
    (λ k. ap (λ (one : World). one.state.claim k) e ∙ ap (λ (σ : State). σ.claim k) fails.after)
    (λ t. ap (λ (one : World). one.state.session t) e
    ∙ ap (λ (σ : State). σ.session t) fails.after)
write_kept w x g now x' (HasStored job token written τ has all stores e) =
    claim_kept x x' job.id _ (λ t since is. cc)
    (λ k. ap (λ (one : World). one.state.claim k) e ∙ ap (λ (σ : State). σ.claim k) stores.after)
    (λ t. ap (λ (one : World). one.state.session t) e
    ∙ ap (λ (σ : State). σ.session t) stores.after)
write_kept w x g now x' (Settles job token τ has accepts e) =
    claim_kept x x' job.id _ (λ t since is. cc)
    (λ k. ap (λ (one : World). one.state.claim k) e ∙ ap (λ (σ : State). σ.claim k) accepts.after)
    (λ t. ap (λ (one : World). one.state.session t) e
    ∙ ap (λ (σ : State). σ.session t) accepts.after)
write_kept w x g now x' (Closes job token has e) = same_kept x _ x' e refl
write_kept w x g now x' (Forgets job τ has abandons e) =
    claim_kept x x' job.id Unknown (λ t since is. cc)
    (λ k. ap (λ (one : World). one.state.claim k) e ∙ ap (λ (σ : State). σ.claim k) abandons.after)
    (λ t. ap (λ (one : World). one.state.session t) e
    ∙ ap (λ (σ : State). σ.session t) abandons.after)
write_kept w x g now x' (TellsKept s has e) = same_kept x _ x' e refl
write_kept w x g now x' (TellsFailed s has e) = same_kept x _ x' e refl

-- Expire makes no offer
expire_offered : (now remember : ℕ) (fronts : List Passed) (claim : Claim) (t since : ℕ)
    → after_expire now remember fronts claim ≡ Offered t since → claim ≡ Offered t since
expire_offered now remember fronts Unknown t since e = e
expire_offered now remember fronts (Offered other made) t since e = e
expire_offered now remember fronts (Storing other article stage) t since e = e
expire_offered now remember fronts (Stored token moment) t since e =
    by (nat_le (moment + remember) now && is_passed fronts token) e
  where
    by : (test : Bool) → (if test then Unknown else Stored token moment) ≡ Offered t since
        → Stored token moment ≡ Offered t since
    by true is = absurd (cc)
    by false is = is
expire_offered now remember fronts (Refused moment) t since e =
    by (nat_le (moment + remember) now) e
  where
    by : (test : Bool) → (if test then Unknown else Refused moment) ≡ Offered t since
        → Refused moment ≡ Offered t since
    by true is = absurd (cc)
    by false is = is

-- nor do the ids of a shard that are forgotten
forgetting_offered : (claim : List ℕ → Claim) (shard now : ℕ) (remember : Option ℕ)
    (fronts : List Passed) (id : List ℕ) (t since : ℕ)
    → forgetting claim shard now remember fronts id ≡ Offered t since → claim id ≡ Offered t since
forgetting_offered claim shard now None fronts id t since e = e
forgetting_offered claim shard now (Some remember) fronts id t since e = by (shard_of id == shard) e
  where
    by : (test : Bool)
        → (if test then after_expire now remember fronts (claim id) else claim id)
        ≡ Offered t since → claim id ≡ Offered t since
    by true is = expire_offered now remember fronts (claim id) t since is
    by false is = is

-- an Expire, by what it reads
front_kept : (w : Terms) (x : World) (shard now : ℕ) (fronts : List Passed) (next : Option Buffer)
    → OffersAreOpen x → OffersAreOpen (reads_front w x shard now fronts next)
front_kept w x shard now fronts (Some buffer) are_open =
    same_kept x _ (reads_front w x shard now fronts (Some buffer)) refl refl are_open
front_kept w x shard now fronts None are_open =
    offers_fewer x (forgotten w x shard now fronts 15)
    (forgetting_offered x.state.claim shard now w.remember fronts) (λ t. refl) are_open

-- an Expire
expired_kept : (w : Terms) (x : World) (shard now : ℕ) (expirer : Expirer) → OffersAreOpen x
    → OffersAreOpen (expired w x shard now expirer)
expired_kept w x shard now (world.Reading fronts) are_open =
    front_kept w x shard now fronts (slice_get w.buffers (length fronts)) are_open
expired_kept w x shard now (Forgetting fronts left) are_open =
    offers_fewer x (forgotten w x shard now fronts (left - 1))
    (forgetting_offered x.state.claim shard now w.remember fronts) (λ t. refl) are_open

-- after a Restart nothing is offered
restart_offered : (claim : Claim) (t since : ℕ) → after_restart claim ≡ Offered t since → ⊥
restart_offered Unknown t since e = cc
restart_offered (Offered other made) t since e = cc
restart_offered (Storing other article stage) t since e = cc
restart_offered (Stored token moment) t since e = cc
restart_offered (Refused moment) t since e = cc

-- a Restart
restart_kept : (w : Terms) (x : World) (output : Output) (x' : World) → Restarts w x output x'
    → OffersAreOpen x → OffersAreOpen x'
restart_kept w x output x' (IsBusy id busy said e) = same_kept x x x' e refl
restart_kept w x output x' (HasNoRoom failures rises said e) = same_kept x _ x' e refl
restart_kept w x output x' (HasNot i buffer failures there idle failed said e) =
    same_kept x _ x' e refl
restart_kept w x output x' (run.IsDone failures idle rises said e) =
    λ are_open id t since is.
    absurd (restart_offered (x.state.claim id) t since
    (sym (ap (λ (one : World). one.state.claim id) e) ∙ is))

-- a session that goes on with the same open offers
session_kept : (x x' : World) (s : ℕ) (old next : Session) → x.state.session s ≡ Some old
    → next.offers ≡ old.offers → x' ≡ with_session x s next → OffersAreOpen x → OffersAreOpen x'
session_kept x x' s old next there offers e are_open id t since is =
    offer_stays x x' s old next there (λ n. ap (λ (one : World). one.state.session n) e) id
    (λ is_there. ap (λ list. is_open list id) offers ∙ is_there) t
    (are_open id t since (sym (ap (λ (one : World). one.state.claim id) e) ∙ is))

-- a session that opens has a number of its own
opened_kept : (w : Terms) (x x' : World) (s peer : ℕ) → IsWell w x
    → is_taken x.state.newest s ≡ false → x' ≡ opened x s peer → OffersAreOpen x → OffersAreOpen x'
opened_kept w x x' s peer well free e are_open id t since is =
    let was = are_open id t since (sym (ap (λ (one : World). one.state.claim id) e) ∙ is) in
    offer_moves x x' t id
    (ap (λ (one : World). one.state.session t) e
    ∙ put_at_there x.state.session s (Some (new_session peer)) t
    (λ same. none-some was.session
    (sym (well.numbered.unopened s free) ∙ ap x.state.session (sym same) ∙ was.there)))
    was

-- why Open isn't refused
may_open : (taken : Bool) (inside : Bool)
    → (if taken then Some world.SessionTaken
    else (if inside then None else Some world.NoPeer)) ≡ None → taken ≡ false
may_open true inside e = absurd (none-some _ (sym e))
may_open false inside e = refl

-- an event that isn't refused
does_kept : (w : Terms) (x : World) (event : Event) (output : Output) (x' : World) → IsWell w x
    → refusal w x.state event ≡ None → Does w x event output x' → OffersAreOpen x
    → OffersAreOpen x'
does_kept w x (Open s peer) output x' well free does =
    opened_kept w x x' s peer well
    (may_open (is_taken x.state.newest s) (nat_lt peer (length w.peers)) free) does.1
does_kept w x (Bytes s piece) output x' well free does =
    session_kept x x' s does.0 _ does.1 refl does.3
does_kept w x (Turn s now) output x' well free does = turn_kept w x s now output x' does
does_kept w x (Write g now) output x' well free does = write_kept w x g now x' does.1
does_kept w x (Break s) output x' well free does =
    session_kept x x' s does.0 _ does.1 refl does.3
does_kept w x (Expire shard now) output x' well free does =
    λ are_open. subst OffersAreOpen (sym does.1)
    (expired_kept w x shard now x.work.expirer are_open)
does_kept w x Restart output x' well free does = restart_kept w x output x' does

-- each step
step_kept : (w : Terms) (x : World) (event : Event) (output : Output) (x' : World) → IsWell w x
    → Step w x event output x' → OffersAreOpen x → OffersAreOpen x'
step_kept w x event output x' well (IsRefused fault is said e) = same_kept x x x' e refl
step_kept w x event output x' well (WantsMemory takes said e) = same_kept x x x' e refl
step_kept w x event output x' well (IsDone free does) = does_kept w x event output x' well free does

-- offers are open after every run from the beginning
pub offers_are_open : (w : Terms) → IsSound w → Always w OffersAreOpen
offers_are_open w sound =
    always_keeps w sound OffersAreOpen (step_kept w) (λ failures id s since e. absurd (cc))
