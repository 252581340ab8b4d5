-- The world after a stop, where no id was being stored: it is in order by any settings with the
-- same store, whichever session is the newest then, as long as no number that was had is free.
use Rattle.std.proofs.Common.{◌≡◌, ◌∙◌, ◌<◌, ℕ, true, false, List, length, Option, None, Some, refl}
use Rattle.std.proofs.Common.{sym, ap, subst, true≢false}
use Rattle.std.proofs.lemmas.List.Elements.{All-nil}
use Rattle.std.proofs.lemmas.Option.{same_Some, none-some}
use Rattle.std.specs.Prelude.{option_map, slice_get}
use Rattle.relay_model.specs.Awaited.{Awaits, IsAwaited, IsFree, NoErrand}
use Rattle.relay_model.specs.Claims.{Accepted, Claim, Unknown, Offered, Storing, Stored, Refused}
use Rattle.relay_model.specs.Claims.{Stage, Waiting, after_restart, is_storing}
use Rattle.relay_model.specs.Invariants.{IsPlaced, IsSoundArticle, WaitsAs, held}
use Rattle.relay_model.specs.Run.{is_running, is_taken, restarted}
use Rattle.relay_model.specs.State.{Session, Job, Ended, in_phase}
use Rattle.relay_model.specs.Terms.{Terms}
use Rattle.relay_model.specs.World.{World}
use Rattle.relay_facts.specs.Started.{HasSameStore}
use Rattle.relay_facts.proofs.Orderly.{IsOrderly}
use Rattle.relay_facts.proofs.Places.{hand_of, hand_waits}

-- the world after a stop, with this newest session
abbrev pub stopped : World → (ℕ → ℕ) → Option ℕ → World
stopped x failures newest =
    let y = restarted x failures in record y { state = record y.state { newest = newest } }

-- settings have the same store as themselves
pub store_itself : (w : Terms) → HasSameStore w w
store_itself w = record { buffers = refl; groups = refl; feeds = refl }

-- Restart stores nothing new
pub restart_storing : (s : ℕ) (article : Accepted) (stage : Stage) (claim : Claim)
    → after_restart claim ≡ Storing s article stage → claim ≡ Storing s article stage
restart_storing s article stage Unknown e = absurd (cc)
restart_storing s article stage (Offered other since) e = absurd (cc)
restart_storing s article stage (Storing other had at) e = e
restart_storing s article stage (Stored token moment) e = absurd (cc)
restart_storing s article stage (Refused moment) e = absurd (cc)

-- no id is being stored
abbrev pub IsIdle : World → Type 0
IsIdle x = (id : List ℕ) → is_storing (x.state.claim id) ≡ false

-- nothing is stored of an id of a world in which no id is
not_stored : (x : World) → IsIdle x → (id : List ℕ) (s : ℕ) (article : Accepted) (stage : Stage)
    → x.state.claim id ≡ Storing s article stage → ⊥
not_stored x idle id s article stage e = true≢false (sym (ap is_storing e) ∙ idle id)

-- nor of an id of the world after the stop
pub none_stored : (x : World) → IsIdle x → (id : List ℕ) (s : ℕ) (article : Accepted)
    (stage : Stage) → after_restart (x.state.claim id) ≡ Storing s article stage → ⊥
none_stored x idle id s article stage e =
    not_stored x idle id s article stage
    (restart_storing s article stage (x.state.claim id) e)

-- a session that ended has the hand that it had
ended_hand : (o : Option Session)
    → hand_of (option_map (λ (one : Session). in_phase one Ended) o) ≡ hand_of o
ended_hand None = refl
ended_hand (Some session) = refl

-- so no job is anywhere after a stop
stopped_placed : (w v : Terms) (x : World) (failures : ℕ → ℕ) (newest : Option ℕ) → IsIdle x
    → IsPlaced w x → IsPlaced v (stopped x failures newest)
stopped_placed w v x failures newest idle p =
    record {
      one = λ id s article stage e. absurd (none_stored x idle id s article stage e);
      hand = λ s session job there has.
          let waits = hand_waits w x p s job (sym (ended_hand (x.state.session s))
          ∙ ap hand_of there ∙ has) in
          absurd (not_stored x idle job.id job.session job.article Waiting waits.claimed);
      empty = λ s session there carries. empty s session there session.hand refl;
      queue = λ g. All-nil (λ (job : Job). (job.article.group ≡ g)
          × WaitsAs (stopped x failures newest).state job.session job);
      writer = λ g. tt;
    }
  where
    empty : (s : ℕ) (session : Session)
        → (stopped x failures newest).state.session s ≡ Some session
        → (o : Option Job) → session.hand ≡ o → session.hand ≡ None
    empty s session there None e = e
    empty s session there (Some job) e =
        let waits = hand_waits w x p s job (sym (ended_hand (x.state.session s)) ∙ ap hand_of there
        ∙ e) in
        absurd (not_stored x idle job.id job.session job.article Waiting waits.claimed)

-- and the world after a stop is in order
pub stopped_orderly : (w v : Terms) → HasSameStore w v → (x : World) (failures : ℕ → ℕ)
    (newest : Option ℕ) → ((s : ℕ) → is_taken newest s ≡ false → is_taken x.state.newest s ≡ false)
    → IsIdle x → IsOrderly w x → IsOrderly v (stopped x failures newest)
stopped_orderly w v same x failures newest free idle orderly = record {
  numbered = record {
    unopened = λ s above. ap (λ o. option_map (λ (one : Session). in_phase one Ended) o)
        (orderly.numbered.unopened s (free s above));
    peer = λ s session. peers session (x.state.session s);
  };
  placed = stopped_placed w v x failures newest idle orderly.placed;
  sized = record {
    begun = λ g group there. orderly.sized.begun g group
        (ap (λ groups. slice_get groups g) (sym same.groups) ∙ there);
    laid = λ g group there. orderly.sized.laid g group
        (ap (λ groups. slice_get groups g) (sym same.groups) ∙ there);
    storing = λ id s article stage e. absurd (none_stored x idle id s article stage e);
    held_one = λ s session article. holds session article (x.state.session s);
    kept = orderly.sized.kept;
  };
}
  where
    peers : (session : Session) (o : Option Session)
        → option_map (λ (one : Session). in_phase one Ended) o ≡ Some session
        → is_running session.phase ≡ true → session.peer < length v.peers
    peers session None e running = absurd (none-some session e)
    peers session (Some one) e running =
        absurd (true≢false (sym running
        ∙ ap (λ (two : Session). is_running two.phase)
        (sym (same_Some (in_phase one Ended) session e))))

    holds : (session : Session) (article : Accepted) (o : Option Session)
        → option_map (λ (one : Session). in_phase one Ended) o ≡ Some session
        → held session.phase ≡ Some article → IsSoundArticle v article
    holds session article None e has = absurd (none-some session e)
    holds session article (Some one) e has =
        absurd (none-some article
        (ap (λ (two : Session). held two.phase) (same_Some (in_phase one Ended) session e)
        ∙ has))

-- and nothing is on its way
pub stopped_awaited : (x : World) (failures : ℕ → ℕ) (newest : Option ℕ) → IsIdle x
    → IsAwaited (stopped x failures newest)
stopped_awaited x failures newest idle = record {
  there = λ s session e. ended s session (x.state.session s) e;
  absent = λ s e. free s;
}
  where
    y : World
    y = stopped x failures newest

    free : (s : ℕ) → IsFree y s
    free s = record {
      stores = λ id stores. none_stored x idle id s stores.article stores.stage stores.claimed;
      told = λ g told. none-some s told;
      slot = refl;
    }

    ended : (s : ℕ) (session : Session) (o : Option Session)
        → option_map (λ (one : Session). in_phase one Ended) o ≡ Some session
        → Awaits y s session.phase
    ended s session None e = absurd (none-some session e)
    ended s session (Some one) e =
        subst (λ (two : Session). Awaits y s two.phase) (same_Some (in_phase one Ended) session e)
        (NoErrand (free s))
