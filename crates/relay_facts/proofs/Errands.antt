-- What is on its way from or to sessions, where a step changes that of one session at most.
use Rattle.std.proofs.Common.{◌≡◌, ◌∙◌, ℕ, ◌==◌, Bool, true, false, List, Option, None, Some, refl}
use Rattle.std.proofs.Common.{sym, ap, subst}
use Rattle.std.proofs.lemmas.Bool.{eqb-true, eqb-false}
use Rattle.std.proofs.lemmas.Option.{none-some, same_Some}
use Rattle.relay_model.specs.Awaited.{told_by, IsStoredFor, IsFree, Errand, NoErrand, BeingStored}
use Rattle.relay_model.specs.Awaited.{ToBeTold, IsInSlot, Awaits, IsAwaited}
use Rattle.relay_model.specs.State.{Session, Phase, Ready, AwaitsBlock, Holds, Waits, Fetches}
use Rattle.relay_model.specs.State.{Leaving}
use Rattle.relay_model.specs.State.{Ended, put_at}
use Rattle.relay_model.specs.World.{World}
use Rattle.relay_facts.proofs.Puts.{put_at_both}
use Rattle.relay_facts.proofs.Unmoved.{StoresAlike}

-- the same is on its way from or to the session
pub record SameErrand (x y : World) (s : ℕ) : Type 0 where
  pub earlier : (id : List ℕ) → IsStoredFor y s id → IsStoredFor x s id
  pub later : (id : List ℕ) → IsStoredFor x s id → IsStoredFor y s id
  pub told : (g : ℕ) → (told_by (y.work.writer g) ≡ Some s → told_by (x.work.writer g) ≡ Some s)
      × (told_by (x.work.writer g) ≡ Some s → told_by (y.work.writer g) ≡ Some s)
  pub slot : y.work.slot s ≡ x.work.slot s

-- claims alike, writers that tell the same
pub same_errand : (x y : World) (s : ℕ) → StoresAlike x.state y.state
    → ((g : ℕ) → told_by (y.work.writer g) ≡ told_by (x.work.writer g))
    → y.work.slot s ≡ x.work.slot s
    → SameErrand x y s
same_errand x y s same told slot = record {
  earlier = λ id stores. record {
    article = stores.article;
    stage = stores.stage;
    claimed =
        same.earlier id s stores.article stores.stage stores.claimed;
  };
  later = λ id stores. record {
    article = stores.article;
    stage = stores.stage;
    claimed =
        same.later id s stores.article stores.stage stores.claimed;
  };
  told = λ g. (λ e. sym (told g) ∙ e, λ e. told g ∙ e);
  slot = slot;
}

-- nothing is on its way where the same was
pub free_on : (x y : World) (s : ℕ) → SameErrand x y s → IsFree x s → IsFree y s
free_on x y s same free = record {
  stores = λ id stores. free.stores id (same.earlier id stores);
  told = λ g e. free.told g ((same.told g).0 e);
  slot = same.slot ∙ free.slot;
}

-- and the other way round
free_back : (x y : World) (s : ℕ) → SameErrand x y s → IsFree y s → IsFree x s
free_back x y s same free = record {
  stores = λ id stores. free.stores id (same.later id stores);
  told = λ g e. free.told g ((same.told g).1 e);
  slot = sym same.slot ∙ free.slot;
}

-- the same is on its way
pub errand_on : (x y : World) (s : ℕ) → SameErrand x y s → Errand x s → Errand y s
errand_on x y s same (NoErrand free) = NoErrand (free_on x y s same free)
errand_on x y s same (BeingStored id stores only untold slot) =
    BeingStored id (same.later id stores) (λ other o. only other (same.earlier other o))
    (λ g e. untold g ((same.told g).0 e)) (same.slot ∙ slot)
errand_on x y s same (ToBeTold g told only none slot) =
    ToBeTold g ((same.told g).1 told) (λ h e. only h ((same.told h).0 e))
    (λ id o. none id (same.earlier id o)) (same.slot ∙ slot)
errand_on x y s same (IsInSlot outcome slot none untold) =
    IsInSlot outcome (same.slot ∙ slot) (λ id o. none id (same.earlier id o))
    (λ g e. untold g ((same.told g).0 e))

-- the same for the phase of a session
pub awaits_on : (x y : World) (s : ℕ) → SameErrand x y s → (phase : Phase) → Awaits x s phase
    → Awaits y s phase
awaits_on x y s same Ready a = free_on x y s same a
awaits_on x y s same (AwaitsBlock transfer id) a = free_on x y s same a
awaits_on x y s same (Holds id article) a = free_on x y s same a
awaits_on x y s same (Waits transfer id) a = record {
  errand = errand_on x y s same a.errand;
  some = λ free. a.some (free_back x y s same free);
  own = λ other o. a.own other (same.earlier other o);
}
awaits_on x y s same (Fetches asked token had) a = free_on x y s same a
awaits_on x y s same Leaving a = errand_on x y s same a
awaits_on x y s same Ended a = errand_on x y s same a

-- whatever its phase, one thing at most is on its way
pub errand_of : (x : World) (s : ℕ) (phase : Phase) → Awaits x s phase → Errand x s
errand_of x s Ready a = NoErrand a
errand_of x s (AwaitsBlock transfer id) a = NoErrand a
errand_of x s (Holds id article) a = NoErrand a
errand_of x s (Waits transfer id) a = a.errand
errand_of x s (Fetches asked token had) a = NoErrand a
errand_of x s Leaving a = a
errand_of x s Ended a = a

-- there is a session, or nothing is on its way
pub session_errand : (x : World) → IsAwaited x → (s : ℕ) → Errand x s
session_errand x a s = by (x.state.session s) refl
  where
    by : (o : Option Session) → x.state.session s ≡ o → Errand x s
    by None e = NoErrand (a.absent s e)
    by (Some session) e = errand_of x s session.phase (a.there s session e)

-- what was on its way goes on to something else, and no article is stored any more
pub awaits_next : (x y : World) (s : ℕ) (phase : Phase) → Awaits x s phase → (IsFree x s → ⊥)
    → Errand y s
    → (IsFree y s → ⊥) → ((id : List ℕ) → IsStoredFor y s id → ⊥) → Awaits y s phase
awaits_next x y s Ready a busy errand some none = absurd (busy a)
awaits_next x y s (AwaitsBlock transfer id) a busy errand some none = absurd (busy a)
awaits_next x y s (Holds id article) a busy errand some none = absurd (busy a)
awaits_next x y s (Waits transfer id) a busy errand some none =
    record { errand = errand; some = some; own = λ other o. absurd (none other o) }
awaits_next x y s (Fetches asked token had) a busy errand some none = absurd (busy a)
awaits_next x y s Leaving a busy errand some none = errand
awaits_next x y s Ended a busy errand some none = errand

-- what is on its way to one session may change
pub awaited_but : (x y : World) (s : ℕ) → ((t : ℕ) → (t ≡ s → ⊥) → SameErrand x y t)
    → ((t : ℕ) → (t ≡ s → ⊥) → y.state.session t ≡ x.state.session t)
    → ((session : Session) → y.state.session s ≡ Some session → Awaits y s session.phase)
    → (y.state.session s ≡ None → IsFree y s) → IsAwaited x → IsAwaited y
awaited_but x y s same session here gone a = record {
  there = λ t one is. there t one is (t == s) refl;
  absent = λ t is. absent t is (t == s) refl;
}
  where
    there : (t : ℕ) (one : Session) → y.state.session t ≡ Some one → (b : Bool) → (t == s) ≡ b
        → Awaits y t one.phase
    there t one is true e =
        let at = eqb-true t s e in
        subst (λ n. Awaits y n one.phase) (sym at) (here one (ap y.state.session (sym at) ∙ is))
    there t one is false e =
        let apart = eqb-false t s e in
        awaits_on x y t (same t apart) one.phase (a.there t one (sym (session t apart) ∙ is))

    absent : (t : ℕ) → y.state.session t ≡ None → (b : Bool) → (t == s) ≡ b → IsFree y t
    absent t is true e =
        let at = eqb-true t s e in
        subst (IsFree y) (sym at) (gone (ap y.state.session (sym at) ∙ is))
    absent t is false e =
        let apart = eqb-false t s e in
        free_on x y t (same t apart) (a.absent t (sym (session t apart) ∙ is))

-- nothing on its way changes
pub awaited_same : (x y : World) → ((t : ℕ) → SameErrand x y t)
    → ((t : ℕ) → y.state.session t ≡ x.state.session t)
    → IsAwaited x → IsAwaited y
awaited_same x y same session a = record {
  there = λ t one is. awaits_on x y t (same t) one.phase (a.there t one (sym (session t) ∙ is));
  absent = λ t is. free_on x y t (same t) (a.absent t (sym (session t) ∙ is));
}

-- one session goes on in another phase, nothing on its way changes
pub awaited_session : (x y : World) (s : ℕ) (next : Session) → ((t : ℕ) → SameErrand x y t)
    → ((t : ℕ) → y.state.session t ≡ put_at x.state.session s (Some next) t)
    → Awaits x s next.phase → IsAwaited x → IsAwaited y
awaited_session x y s next same puts goes a = record {
  there = λ t one is.
      put_at_both (λ o. o ≡ Some one → Awaits y t one.phase) x.state.session s (Some next) t
      (λ e has. subst (λ (two : Session). Awaits y t two.phase) (same_Some next one has)
      (subst (λ n. Awaits y n next.phase) (sym e) (awaits_on x y s (same s) next.phase goes)))
      (λ apart has. awaits_on x y t (same t) one.phase (a.there t one has))
      (sym (puts t) ∙ is);
  absent = λ t is.
      put_at_both (λ o. o ≡ None → IsFree y t) x.state.session s (Some next) t
      (λ e has. absurd (none-some next (sym has)))
      (λ apart has. free_on x y t (same t) (a.absent t has))
      (sym (puts t) ∙ is);
}
