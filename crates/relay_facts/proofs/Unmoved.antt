-- A step that moves no job from its place: hands, queues and the writers' jobs stay, and the same
-- ids are being stored.
use Rattle.std.proofs.Common.{◌≡◌, ◌∙◌, ℕ, false, List, None, Some, All, refl, sym, ap, subst}
use Rattle.relay_model.specs.Claims.{Accepted, Storing, Stage, Waiting}
use Rattle.relay_model.specs.Invariants.{IsPlaced, IsAt, WaitsAs, job_at, may_carry}
use Rattle.relay_model.specs.State.{State, Session, Job, put_at}
use Rattle.relay_model.specs.Terms.{Terms}
use Rattle.relay_model.specs.World.{World}
use Rattle.relay_facts.proofs.Places.{hand_of, CarriesAsMay, hand_waits, carries, at_on, at_stage}
use Rattle.relay_facts.proofs.Places.{all_map, same_count}
use Rattle.relay_facts.proofs.Puts.{put_at_both}

-- the same ids are being stored, by the same claims
pub record StoresAlike (σ τ : State) : Type 0 where
  pub earlier : (id : List ℕ) (s : ℕ) (article : Accepted) (stage : Stage)
      → τ.claim id ≡ Storing s article stage → σ.claim id ≡ Storing s article stage
  pub later : (id : List ℕ) (s : ℕ) (article : Accepted) (stage : Stage)
      → σ.claim id ≡ Storing s article stage → τ.claim id ≡ Storing s article stage

-- no job goes from its place
pub record Unmoved (w : Terms) (x y : World) : Type 0 where
  pub claims : StoresAlike x.state y.state
  pub begun : (g : ℕ) → y.state.begun g ≡ x.state.begun g
  pub hand : (s : ℕ) → hand_of (y.state.session s) ≡ hand_of (x.state.session s)
  pub carries : (s : ℕ) → CarriesAsMay (y.state.session s)
  pub queue : (g : ℕ) → y.work.queue g ≡ x.work.queue g
  pub job : (g : ℕ) → job_at (y.work.writer g) ≡ job_at (x.work.writer g)
  pub writer : (g : ℕ) → IsAt w x.state g (x.work.writer g) → IsAt w x.state g (y.work.writer g)

-- a claim that stays as it is
pub alike : (σ τ : State) → ((id : List ℕ) → τ.claim id ≡ σ.claim id) → StoresAlike σ τ
alike σ τ same = record {
  earlier = λ id s article stage e. sym (same id) ∙ e;
  later = λ id s article stage e. same id ∙ e;
}

-- a job waits as before where the same ids are stored
waits_by : (σ τ : State) → StoresAlike σ τ → (s : ℕ) (job : Job) → WaitsAs σ s job → WaitsAs τ s job
waits_by σ τ same s job waits =
    record {
      of_session = waits.of_session;
      claimed =
          same.later job.id job.session job.article Waiting waits.claimed;
    }

-- what a writer's phase says holds as before where the same ids are stored
at_by : (w : Terms) (σ τ : State) (g : ℕ) → StoresAlike σ τ → τ.begun g ≡ σ.begun g
    → (x : World) (y : World) → IsAt w σ g (y.work.writer g) → IsAt w τ g (y.work.writer g)
at_by w σ τ g same begun x y at =
    at_on w σ τ g (y.work.writer g)
    (λ job has. let is = at_stage w σ g (y.work.writer g) job has at in
    same.later job.id job.session job.article is.stage is.claimed ∙ sym is.claimed)
    begun at

-- what is in one place stays so
pub unmoved_placed : (w : Terms) (x y : World) → Unmoved w x y → IsPlaced w x → IsPlaced w y
unmoved_placed w x y u p =
    record {
      one = λ id s article stage e.
          same_count x y id s article.group (u.hand s) (u.queue article.group) (u.job article.group)
          ∙ p.one id s article stage (u.claims.earlier id s article stage e);
      hand = λ s session job there has.
          waits_by x.state y.state u.claims s job
          (hand_waits w x p s job (sym (u.hand s) ∙ ap hand_of there ∙ has));
      empty = λ s session there. subst CarriesAsMay there (u.carries s);
      queue = λ g. subst (λ q. All (λ (job : Job). (job.article.group ≡ g)
          × WaitsAs y.state job.session job) q) (sym (u.queue g))
          (all_map (λ (job : Job). (job.article.group ≡ g) × WaitsAs x.state job.session job)
          (λ (job : Job). (job.article.group ≡ g) × WaitsAs y.state job.session job)
          (λ job is. (is.0, waits_by x.state y.state u.claims job.session job is.1))
          (x.work.queue g) (p.queue g));
      writer = λ g. at_by w x.state y.state g u.claims (u.begun g) x y (u.writer g (p.writer g));
    }

-- where one session is put in place of what was there, with the same hand, no hand is changed
pub same_hands : (x : World) (s : ℕ) (next : Session) → next.hand ≡ hand_of (x.state.session s)
    → (n : ℕ) → hand_of (put_at x.state.session s (Some next) n) ≡ hand_of (x.state.session n)
same_hands x s next hand n =
    put_at_both (λ o. hand_of o ≡ hand_of (x.state.session n)) x.state.session s (Some next) n
    (λ e. hand ∙ ap (λ k. hand_of (x.state.session k)) (sym e)) (λ other. refl)

-- and each carries as it may where the new one does
pub all_carry : (w : Terms) (x : World) → IsPlaced w x → (s : ℕ) (next : Session)
    → (may_carry next.phase ≡ false → next.hand ≡ None)
    → (n : ℕ) → CarriesAsMay (put_at x.state.session s (Some next) n)
all_carry w x p s next empty n =
    put_at_both CarriesAsMay x.state.session s (Some next) n (λ e. empty) (λ other. carries w x p n)

-- a step that puts one session in place of another with the same hand
pub session_placed : (w : Terms) (x y : World) (s : ℕ) (next : Session)
    → StoresAlike x.state y.state
    → ((g : ℕ) → y.state.begun g ≡ x.state.begun g)
    → ((n : ℕ) → y.state.session n ≡ put_at x.state.session s (Some next) n)
    → ((g : ℕ) → y.work.queue g ≡ x.work.queue g) → ((g : ℕ) → y.work.writer g ≡ x.work.writer g)
    → next.hand ≡ hand_of (x.state.session s)
    → (may_carry next.phase ≡ false → next.hand ≡ None)
    → IsPlaced w x → IsPlaced w y
session_placed w x y s next claims begun session queue writer hand empty p =
    unmoved_placed w x y (record {
      claims = claims;
      begun = begun;
      hand = λ n. ap hand_of (session n) ∙ same_hands x s next hand n;
      carries = λ n. subst CarriesAsMay (sym (session n)) (all_carry w x p s next empty n);
      queue = queue;
      job = λ g. ap job_at (writer g);
      writer = λ g at. subst (IsAt w x.state g) (sym (writer g)) at;
    }) p
