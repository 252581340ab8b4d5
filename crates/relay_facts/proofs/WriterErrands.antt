-- Write: what it does to what is on its way to sessions.
use Rattle.std.proofs.Common.{◌≡◌, ◌∙◌, ◌+◌, ℕ, false, List, None, Some, bytes_eq, refl, sym, ap}
use Rattle.std.proofs.Common.{subst, true≢false}
use Rattle.std.proofs.lemmas.Option.{none-some, same_Some}
use Rattle.relay_model.specs.Awaited.{told_by, IsStoredFor, IsFree, Errand, NoErrand, BeingStored}
use Rattle.relay_model.specs.Awaited.{ToBeTold, IsInSlot, IsAwaited}
use Rattle.relay_model.specs.Claims.{Accepted, Claim, Unknown, Storing, Stored, Stage, Waiting}
use Rattle.relay_model.specs.Claims.{Begun, Whole}
use Rattle.relay_model.specs.Claims as claims
use Rattle.relay_facts.proofs.Orderly.{IsOrderly}
use Rattle.relay_model.specs.State.{State, Job, put_at, put_id}
use Rattle.relay_model.specs.Terms.{Terms}
use Rattle.relay_model.specs.World.{World, Writer, Idle, Popped, Writing, Finished, Failed, Settled}
use Rattle.relay_model.specs.World.{Forgotten, Outcome, IsKept, HasFailed, with_failures}
use Rattle.relay_model.specs.Writers.{Writes, NoJob, Pops, HasBegun, FindsWorn, WritesBlock}
use Rattle.relay_model.specs.Writers.{FailsToWrite, HasStored, Settles, Closes, Forgets, TellsKept}
use Rattle.relay_model.specs.Writers.{TellsFailed, staged, popped, writer_at, answered}
use Rattle.relay_facts.proofs.Errands.{SameErrand, same_errand, session_errand, awaits_next}
use Rattle.relay_facts.proofs.Errands.{awaited_but, awaited_same}
use Rattle.relay_facts.proofs.Puts.{put_at_both, put_at_here, put_at_there, put_id_both, same_id}
use Rattle.relay_facts.proofs.Puts.{id_passes}
use Rattle.relay_facts.proofs.Unmoved.{alike}
use Rattle.relay_facts.proofs.WriterOrderly.{hopeless}

-- a writer that tells as before
told_put : (x : World) (g : ℕ) (next : Writer) → told_by next ≡ told_by (x.work.writer g) → (h : ℕ)
    → told_by (put_at x.work.writer g next h) ≡ told_by (x.work.writer h)
told_put x g next e h =
    put_at_both (λ v. told_by v ≡ told_by (x.work.writer h)) x.work.writer g next h
    (λ is. e ∙ ap (λ n. told_by (x.work.writer n)) (sym is)) (λ apart. refl)

-- the writer goes on, no claim being changed
goes_on : (x y : World) (g : ℕ) (next : Writer)
    → ((id : List ℕ) → y.state.claim id ≡ x.state.claim id)
    → ((h : ℕ) → y.work.writer h ≡ put_at x.work.writer g next h)
    → ((t : ℕ) → y.work.slot t ≡ x.work.slot t)
    → ((t : ℕ) → y.state.session t ≡ x.state.session t)
    → told_by next ≡ told_by (x.work.writer g) → IsAwaited x → IsAwaited y
goes_on x y g next claim writer slot session told a =
    awaited_same x y
    (λ t. same_errand x y t (alike x.state y.state claim)
    (λ h. ap told_by (writer h) ∙ told_put x g next told h) (slot t))
    session a

-- another stage of the job's id
stage_same : (x y : World) (g : ℕ) (next : Writer) (job : Job) (before after : Stage)
    → x.state.claim job.id ≡ staged job before
    → ((id : List ℕ) → y.state.claim id ≡ put_id x.state.claim job.id (staged job after) id)
    → ((h : ℕ) → y.work.writer h ≡ put_at x.work.writer g next h)
    → ((t : ℕ) → y.work.slot t ≡ x.work.slot t)
    → told_by next ≡ told_by (x.work.writer g) → (t : ℕ) → SameErrand x y t
stage_same x y g next job before after claimed claim writer slot told t = record {
  earlier = λ id stores.
      put_id_both (λ c. c ≡ Storing t stores.article stores.stage → IsStoredFor x t id)
      x.state.claim job.id (staged job after) id
      (λ e is. record {
        article = job.article;
        stage = before;
        claimed = ap x.state.claim (same_id id job.id e) ∙ claimed
            ∙ ap (λ n. Storing n job.article before)
            (sessions after t stores.article stores.stage is);
      })
      (λ e is. record { article = stores.article; stage = stores.stage; claimed = is })
      (sym (claim id) ∙ stores.claimed);
  later = λ id stores.
      put_id_both (λ c. y.state.claim id ≡ c → IsStoredFor y t id) x.state.claim job.id
      (staged job after) id
      (λ e is. record {
        article = job.article;
        stage = after;
        claimed = is ∙ ap (λ n. Storing n job.article after)
            (sessions before t stores.article stores.stage
            (sym claimed ∙ ap x.state.claim (sym (same_id id job.id e)) ∙ stores.claimed));
      })
      (λ e is. record {
        article = stores.article;
        stage = stores.stage;
        claimed = is
            ∙ stores.claimed;
      })
      (claim id);
  told = λ h. let same = ap told_by (writer h)
      ∙ told_put x g next told h in (λ e. sym same ∙ e, λ e. same ∙ e);
  slot = slot t;
}
  where
    sessions : (stage : Stage) (n : ℕ) (article : Accepted) (other : Stage)
        → staged job stage ≡ Storing n article other → job.session ≡ n
    sessions stage n article other e = cc

-- where an article is being stored for the session, nothing else is on its way
record OnlyStored (x : World) (s : ℕ) (id : List ℕ) : Type 0 where
  only : (other : List ℕ) → IsStoredFor x s other → other ≡ id
  untold : (g : ℕ) → told_by (x.work.writer g) ≡ Some s → ⊥
  slot : x.work.slot s ≡ None

-- an article that is being stored is all that is on the way
only_stored : (x : World) (s : ℕ) (id : List ℕ) → IsStoredFor x s id → Errand x s
    → OnlyStored x s id
only_stored x s id stores (NoErrand free) = absurd (free.stores id stores)
only_stored x s id stores (BeingStored k is only untold slot) =
    record { only = λ other o. only other o ∙ sym (only id stores); untold = untold; slot = slot }
only_stored x s id stores (ToBeTold g told only none slot) = absurd (none id stores)
only_stored x s id stores (IsInSlot outcome slot none untold) = absurd (none id stores)

-- where a writer is to tell the session, nothing else is on its way
record OnlyTold (x : World) (s g : ℕ) : Type 0 where
  only : (h : ℕ) → told_by (x.work.writer h) ≡ Some s → h ≡ g
  none : (id : List ℕ) → IsStoredFor x s id → ⊥

-- an outcome with a writer is all that is on the way
only_told : (x : World) (s g : ℕ) → told_by (x.work.writer g) ≡ Some s → Errand x s → OnlyTold x s g
only_told x s g told (NoErrand free) = absurd (free.told g told)
only_told x s g told (BeingStored k is only untold slot) = absurd (untold g told)
only_told x s g told (ToBeTold k is only none slot) =
    record { only = λ h e. only h e ∙ sym (only g told); none = none }
only_told x s g told (IsInSlot outcome slot none untold) = absurd (untold g told)

-- the job is stored or given up: its writer is to tell its session
ends : (x y : World) (g : ℕ) (next : Writer) (job : Job) (before : Stage) (claim : Claim)
    → x.state.claim job.id ≡ staged job before
    → ((s : ℕ) (article : Accepted) (stage : Stage) → claim ≡ Storing s article stage → ⊥)
    → ((id : List ℕ) → y.state.claim id ≡ put_id x.state.claim job.id claim id)
    → ((h : ℕ) → y.work.writer h ≡ put_at x.work.writer g next h)
    → ((t : ℕ) → y.work.slot t ≡ x.work.slot t)
    → ((t : ℕ) → y.state.session t ≡ x.state.session t)
    → told_by next ≡ Some job.session → told_by (x.work.writer g) ≡ None → IsAwaited x → IsAwaited y
ends x y g next job before claim claimed none claim_is writer slot session tells silent a =
    awaited_but x y s same (λ t apart. session t)
    (λ one is. awaits_next x y s one.phase (a.there s one (sym (session s) ∙ is)) busy errand some
    no_article)
    (λ is. absurd (busy (a.absent s (sym (session s) ∙ is)))) a
  where
    s : ℕ
    s = job.session

    stored : IsStoredFor x s job.id
    stored = record { article = job.article; stage = before; claimed = claimed }

    busy : IsFree x s → ⊥
    busy free = free.stores job.id stored

    is_only : OnlyStored x s job.id
    is_only = only_stored x s job.id stored (session_errand x a s)

    earlier : (t : ℕ) (id : List ℕ) → IsStoredFor y t id
        → IsStoredFor x t id × (bytes_eq id job.id ≡ false)
    earlier t id stores =
        put_id_both (λ c. c ≡ Storing t stores.article stores.stage
        → IsStoredFor x t id × (bytes_eq id job.id ≡ false))
        x.state.claim job.id claim id
        (λ e is. absurd (none t stores.article stores.stage is))
        (λ e is. (record { article = stores.article; stage = stores.stage; claimed = is }, e))
        (sym (claim_is id) ∙ stores.claimed)

    no_article : (id : List ℕ) → IsStoredFor y s id → ⊥
    no_article id stores =
        let was = earlier s id stores in
        true≢false (sym (id_passes id job.id (is_only.only id was.0)) ∙ was.1)

    sessions : (t : ℕ) (article : Accepted) (stage : Stage)
        → staged job before ≡ Storing t article stage → t ≡ s
    sessions t article stage e = cc

    told_here : told_by (y.work.writer g) ≡ Some s
    told_here = ap told_by (writer g ∙ put_at_here x.work.writer g next g refl) ∙ tells

    only_here : (h : ℕ) → told_by (y.work.writer h) ≡ Some s → h ≡ g
    only_here h e =
        put_at_both (λ v. told_by v ≡ Some s → h ≡ g) x.work.writer g next h
        (λ is other. is) (λ apart other. absurd (is_only.untold h other))
        (sym (ap told_by (writer h)) ∙ e)

    errand : Errand y s
    errand = ToBeTold g told_here only_here no_article (slot s ∙ is_only.slot)

    some : IsFree y s → ⊥
    some free = free.told g told_here

    same : (t : ℕ) → (t ≡ s → ⊥) → SameErrand x y t
    same t apart = record {
      earlier = λ id stores. (earlier t id stores).0;
      later = λ id stores.
          put_id_both (λ c. y.state.claim id ≡ c → IsStoredFor y t id) x.state.claim job.id claim id
          (λ e is. absurd (apart (sessions t stores.article stores.stage
          (sym claimed ∙ ap x.state.claim (sym (same_id id job.id e)) ∙ stores.claimed))))
          (λ e is. record {
            article = stores.article;
            stage = stores.stage;
            claimed = is
                ∙ stores.claimed;
          })
          (claim_is id);
      told = λ h. (
        λ e. put_at_both (λ v. told_by v ≡ Some t → told_by (x.work.writer h) ≡ Some t)
            x.work.writer g next h
            (λ is other. absurd (apart (same_Some t s (sym other ∙ tells)))) (λ not other. other)
            (sym (ap told_by (writer h)) ∙ e),
        λ e. ap told_by (writer h) ∙ put_at_both (λ v. told_by v ≡ Some t) x.work.writer g next h
            (λ is. absurd (none-some t (sym silent ∙ ap (λ n. told_by (x.work.writer n)) (sym is)
            ∙ e))) (λ not. e),
      );
      slot = slot t;
    }

-- the outcome is put in the slot
tells_on : (x : World) (g s : ℕ) (outcome : Outcome) → told_by (x.work.writer g) ≡ Some s
    → IsAwaited x
    → IsAwaited (answered x g s outcome)
tells_on x g s outcome told a =
    awaited_but x y s same (λ t apart. refl)
    (λ one is. awaits_next x y s one.phase (a.there s one is) busy errand some no_article)
    (λ is. absurd (busy (a.absent s is))) a
  where
    y : World
    y = answered x g s outcome

    is_only : OnlyTold x s g
    is_only = only_told x s g told (session_errand x a s)

    no_article : (id : List ℕ) → IsStoredFor y s id → ⊥
    no_article id stores = is_only.none id (record {
      article = stores.article;
      stage = stores.stage;
      claimed = stores.claimed;
    })

    busy : IsFree x s → ⊥
    busy free = free.told g told

    here : y.work.slot s ≡ Some outcome
    here = put_at_here x.work.slot s (Some outcome) s refl

    errand : Errand y s
    errand = IsInSlot outcome here no_article
        (λ h e. put_at_both (λ v. told_by v ≡ Some s → ⊥) x.work.writer g Idle h
        (λ is other. none-some s other) (λ apart other. apart (is_only.only h other)) e)

    some : IsFree y s → ⊥
    some free = none-some outcome (sym free.slot ∙ here)

    same : (t : ℕ) → (t ≡ s → ⊥) → SameErrand x y t
    same t apart = record {
      earlier = λ id stores. record {
        article = stores.article;
        stage = stores.stage;
        claimed =
            stores.claimed;
      };
      later = λ id stores. record {
        article = stores.article;
        stage = stores.stage;
        claimed =
            stores.claimed;
      };
      told = λ h. (
        λ e. put_at_both (λ v. told_by v ≡ Some t → told_by (x.work.writer h) ≡ Some t)
            x.work.writer g Idle h
            (λ is other. absurd (none-some t other)) (λ not other. other) e,
        λ e. put_at_both (λ v. told_by v ≡ Some t) x.work.writer g Idle h
            (λ is. absurd (apart (same_Some t s (sym e ∙ ap (λ n. told_by (x.work.writer n)) is
            ∙ told)))) (λ not. e),
      );
      slot = put_at_there x.work.slot s (Some outcome) t apart;
    }

-- what a Write does
pub write_awaited : (w : Terms) (x : World) (g now : ℕ) (x' : World) → Writes w x g now x'
    → IsOrderly w x → IsAwaited x → IsAwaited x'
write_awaited w x g now x' (NoJob idle empty e) orderly a = subst IsAwaited (sym e) a
write_awaited w x g now x' (Pops job rest idle queue e) orderly a =
    subst IsAwaited (sym e)
    (goes_on x (popped x g job rest) g (Popped job) (λ id. refl) (λ h. refl) (λ t. refl) (λ t. refl)
    (sym (ap told_by idle)) a)
write_awaited w x g now x' (HasBegun job token τ has begins e) orderly a =
    let next = Writing job token 0 in
    let y = writer_at x τ g next in
    subst IsAwaited (sym e)
    (awaited_same x y
    (stage_same x y g next job Waiting (Begun token) begins.waiting
    (λ id. ap (λ (ρ : State). ρ.claim id) begins.after) (λ h. refl) (λ t. refl)
    (sym (ap told_by has)))
    (λ t. ap (λ (ρ : State). ρ.session t) begins.after) a)
write_awaited w x g now x' (FindsWorn job has worn e) orderly a =
    subst IsAwaited (sym e)
    (goes_on x (writer_at x x.state g (Failed job None)) g (Failed job None) (λ id. refl)
    (λ h. refl) (λ t. refl) (λ t. refl) (sym (ap told_by has)) a)
write_awaited w x g now x' (WritesBlock job token written failures has left rises e) orderly a =
    let next = Writing job token (written + 1) in
    subst IsAwaited (sym e)
    (goes_on x (with_failures (writer_at x x.state g next) failures) g next (λ id. refl) (λ h. refl)
    (λ t. refl) (λ t. refl) (sym (ap told_by has)) a)
write_awaited w x g now x' (FailsToWrite job token written failures τ has left failed fails e)
    orderly a =
    let next = Failed job (Some token) in
    let y = with_failures (writer_at x τ g next) failures in
    subst IsAwaited (sym e)
    (awaited_same x y
    (stage_same x y g next job (Begun token) claims.Failed fails.begun
    (λ id. ap (λ (ρ : State). ρ.claim id) fails.after) (λ h. refl) (λ t. refl)
    (sym (ap told_by has)))
    (λ t. ap (λ (ρ : State). ρ.session t) fails.after) a)
write_awaited w x g now x' (HasStored job token written τ has all stores e) orderly a =
    let next = Finished job token in
    let y = writer_at x τ g next in
    subst IsAwaited (sym e)
    (awaited_same x y
    (stage_same x y g next job (Begun token) (Whole token) stores.begun
    (λ id. ap (λ (ρ : State). ρ.claim id) stores.after) (λ h. refl) (λ t. refl)
    (sym (ap told_by has)))
    (λ t. ap (λ (ρ : State). ρ.session t) stores.after) a)
write_awaited w x g now x' (Settles job token τ has accepts e) orderly a =
    subst IsAwaited (sym e)
    (ends x (writer_at x τ g (Settled job.session)) g (Settled job.session) job (Whole token)
    (Stored token now) accepts.whole
    (λ s article stage same. absurd (cc)) (λ id. ap (λ (ρ : State). ρ.claim id) accepts.after)
    (λ h. refl) (λ t. refl)
    (λ t. ap (λ (ρ : State). ρ.session t) accepts.after) refl (ap told_by has) a)
write_awaited w x g now x' (Closes job token has e) orderly a =
    subst IsAwaited (sym e)
    (goes_on x (writer_at x x.state g (Failed job None)) g (Failed job None) (λ id. refl)
    (λ h. refl) (λ t. refl) (λ t. refl) (sym (ap told_by has)) a)
write_awaited w x g now x' (Forgets job τ has abandons e) orderly a =
    let stage = hopeless w x g job has orderly in
    subst IsAwaited (sym e)
    (ends x (writer_at x τ g (Forgotten job.session)) g (Forgotten job.session) job stage.0 Unknown
    stage.1.claimed
    (λ s article stage same. absurd (cc)) (λ id. ap (λ (ρ : State). ρ.claim id) abandons.after)
    (λ h. refl) (λ t. refl)
    (λ t. ap (λ (ρ : State). ρ.session t) abandons.after) refl (ap told_by has) a)
write_awaited w x g now x' (TellsKept s has e) orderly a =
    subst IsAwaited (sym e) (tells_on x g s IsKept (ap told_by has) a)
write_awaited w x g now x' (TellsFailed s has e) orderly a =
    subst IsAwaited (sym e) (tells_on x g s HasFailed (ap told_by has) a)
