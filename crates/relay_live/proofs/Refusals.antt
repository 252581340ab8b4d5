-- A refusal that stands behind an offer of the same moment does what it does alone.
use Rattle.std.proofs.Common.{◌≡◌, ◌∙◌, ℕ, ◌==◌, Bool, true, false, List, Option, refl, ap}
use Rattle.std.proofs.Common.{bytes_eq, if◌then◌else◌}
use Rattle.std.proofs.lemmas.Bool.{cond_both, cond-false, cond-true, eq-eqb}
use Rattle.id_history.specs.Mark.{mark_of}
use Rattle.id_history.specs.Shard.{Keeps}
use Rattle.id_history.specs.declared.claims.Shard.{Shard}
use Rattle.relay_model.specs.Claims.{Claim, Unknown, Offered, Storing, Stored, Refused}
use Rattle.relay_model.specs.Claims.{after_offer, after_refuse, has_run_out, standing}
use Rattle.relay_model.specs.State.{put_id}
use Rattle.relay_facts.proofs.Puts.{is_itself}

-- what is known of an id once the session has offered it, and its article was refused
abbrev refused_behind : Option ℕ → (s now : ℕ) → Claim → Claim
refused_behind lasting s now claim = after_refuse s now (standing lasting now claim)

-- the session's own new offer
own_refused : (lasting : Option ℕ) (s now : ℕ)
    → refused_behind lasting s now (Offered s now) ≡ Refused now
own_refused lasting s now =
    cond_both (has_run_out lasting now now) Unknown (Offered s now)
    (λ claim. after_refuse s now claim ≡ Refused now) (λ e. refl)
    (λ e. cond-true (s == s) (Refused now) (Offered s now) (eq-eqb s s refl))

-- the same as without the offer
behind_offer : (lasting : Option ℕ) (s now : ℕ) (claim : Claim)
    → refused_behind lasting s now (after_offer s now (standing lasting now claim))
    ≡ refused_behind lasting s now claim
behind_offer lasting s now Unknown = own_refused lasting s now
behind_offer lasting s now (Offered other since) =
    by (has_run_out lasting since now) refl
  where
    by : (test : Bool) → has_run_out lasting since now ≡ test
        → refused_behind lasting s now
        (after_offer s now (if test then Unknown else Offered other since))
        ≡ after_refuse s now (if test then Unknown else Offered other since)
    by true is = own_refused lasting s now
    by false is =
        ap (after_refuse s now)
        (cond-false (has_run_out lasting since now) Unknown (Offered other since) is)
behind_offer lasting s now (Storing other article stage) = refl
behind_offer lasting s now (Stored token moment) = refl
behind_offer lasting s now (Refused moment) = refl

-- what is put behind what was put of the same id
pub put_again : (claims : List ℕ → Claim) (id : List ℕ) (a b : Claim) (other : List ℕ)
    → put_id (put_id claims id a) id b other ≡ put_id claims id b other
put_again claims id a b other = by (bytes_eq other id)
  where
    by : (test : Bool)
        → (if test then b else (if test then a else claims other))
        ≡ (if test then b else claims other)
    by true = refl
    by false = refl

-- a shard that was offered the id first
pub refused_once : (shard : Shard) (claims : List ℕ → Claim) (id : List ℕ) (lasting : Option ℕ)
    (s now : ℕ)
    → Keeps shard (put_id (put_id claims id (after_offer s now (standing lasting now (claims id))))
    id (after_refuse s now (standing lasting now
    (put_id claims id (after_offer s now (standing lasting now (claims id))) id))))
    → Keeps shard (put_id claims id (after_refuse s now (standing lasting now (claims id))))
refused_once shard claims id lasting s now keeps =
    let offered : Claim = after_offer s now (standing lasting now (claims id)) in
    let here : put_id claims id offered id ≡ offered =
    cond-true (bytes_eq id id) offered (claims id) (is_itself id) in
    record {
      agrees = λ other. keeps.agrees other
          ∙ ap mark_of (put_again claims id offered
          (refused_behind lasting s now (put_id claims id offered id)) other
          ∙ ap (λ (one : Claim). put_id claims id one other)
          (ap (refused_behind lasting s now) here ∙ behind_offer lasting s now (claims id)));
    }
