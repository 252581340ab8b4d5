-- What the writers do to a claim is what settling and giving up say of it.
use Rattle.std.proofs.Common.{◌≡◌, ◌∙◌, ℕ, List, refl, sym, ap, eq-eqb}
use Rattle.relay_model.specs.Claims.{Claim, Unknown, Stored, Stage, after_settle, after_forget}
use Rattle.relay_model.specs.State.{State, Job, put_id}
use Rattle.relay_model.specs.Terms.{Terms}
use Rattle.relay_model.specs.Writers.{Accepts, Abandons, IsHopeless, HasFailedToStore, CannotBegin}
use Rattle.relay_model.specs.Writers.{staged}
use Rattle.news_terms.specs.Token.{Token}
use Rattle.relay_facts.proofs.Puts.{is_itself}

-- the claim that is put on an id is the one on it
put_here : (claims : List ℕ → Claim) (id : List ℕ) (claim : Claim)
    → put_id claims id claim id ≡ claim
put_here claims id claim = rw (is_itself id) refl

-- a job that is being stored is settled
settled_job : (job : Job) (stage : Stage) (token : Token) (now : ℕ)
    → after_settle job.session token now (staged job stage) ≡ Stored token now
settled_job job stage token now = rw (eq-eqb job.session job.session refl) refl

-- or given up
forgotten_job : (job : Job) (stage : Stage)
    → after_forget job.session (staged job stage) ≡ Unknown
forgotten_job job stage = rw (eq-eqb job.session job.session refl) refl

-- an acceptance settles
pub accepts_settle : (σ σ' : State) (job : Job) (token : Token) (now : ℕ)
    → Accepts σ job token now σ'
    → σ'.claim job.id ≡ after_settle job.session token now (σ.claim job.id)
accepts_settle σ σ' job token now is =
    ap (λ (τ : State). τ.claim job.id) is.after
    ∙ put_here σ.claim job.id (Stored token now)
    ∙ sym (ap (after_settle job.session token now) is.whole ∙ settled_job job _ token now)

-- why an article is given up: it is being stored
hopeless_forgets : (w : Terms) (σ : State) (job : Job) → IsHopeless w σ job
    → after_forget job.session (σ.claim job.id) ≡ Unknown
hopeless_forgets w σ job (HasFailedToStore failed) =
    ap (after_forget job.session) failed ∙ forgotten_job job _
hopeless_forgets w σ job (CannotBegin worn) =
    ap (after_forget job.session) worn.waiting ∙ forgotten_job job _

-- an article that is abandoned is given up
pub abandons_forget : (w : Terms) (σ σ' : State) (job : Job) → Abandons w σ job σ'
    → σ'.claim job.id ≡ after_forget job.session (σ.claim job.id)
abandons_forget w σ σ' job is =
    ap (λ (τ : State). τ.claim job.id) is.after
    ∙ put_here σ.claim job.id Unknown ∙ sym (hopeless_forgets w σ job is.hopeless)
