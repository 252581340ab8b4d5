-- An offer that ends at once leaves what is known of its id as the end of an offer alone does.
use Rattle.std.proofs.Common.{◌≡◌, ◌∙◌, ℕ, ◌==◌, Bool, true, false, List, Option, refl, ap}
use Rattle.std.proofs.Common.{bytes_eq}
use Rattle.std.proofs.lemmas.Bool.{cond-true, eq-eqb}
use Rattle.id_history.specs.Mark.{mark_of}
use Rattle.id_history.specs.Shard.{Keeps}
use Rattle.id_history.specs.declared.claims.Shard.{Shard}
use Rattle.relay_model.specs.Claims.{Claim, Unknown, Offered, Storing, Stored, Refused}
use Rattle.relay_model.specs.Claims.{after_offer, after_release, standing}
use Rattle.relay_model.specs.State.{put_id}
use Rattle.news_terms.specs.Token.{Token}
use Rattle.relay_live.specs.Pausing.{after_while}
use Rattle.relay_facts.proofs.Puts.{is_itself}
use Rattle.relay_live.proofs.Refusals.{put_again}

-- the same as without the offer
behind_offer : (s now : ℕ) (claim : Claim)
    → after_release s (after_offer s now claim) ≡ after_release s claim
behind_offer s now Unknown =
    cond-true (s == s) Unknown (Offered s now) (eq-eqb s s refl)
behind_offer s now (Offered other since) = refl
behind_offer s now (Storing other article stage) = refl
behind_offer s now (Stored token moment) = refl
behind_offer s now (Refused moment) = refl

-- a shard that was offered the id, and let go of it
pub released_once : (shard : Shard) (claims : List ℕ → Claim) (id : List ℕ) (lasting : Option ℕ)
    (s now : ℕ)
    → Keeps shard (put_id (put_id claims id (after_offer s now (standing lasting now (claims id))))
    id (after_release s
    (put_id claims id (after_offer s now (standing lasting now (claims id))) id)))
    → Keeps shard (put_id claims id (after_release s (standing lasting now (claims id))))
released_once shard claims id lasting s now keeps =
    let offered : Claim = after_offer s now (standing lasting now (claims id)) in
    let here : put_id claims id offered id ≡ offered =
    cond-true (bytes_eq id id) offered (claims id) (is_itself id) in
    record {
      agrees = λ other. keeps.agrees other
          ∙ ap mark_of (put_again claims id offered
          (after_release s (put_id claims id offered id)) other
          ∙ ap (λ (one : Claim). put_id claims id one other)
          (ap (after_release s) here ∙ behind_offer s now (standing lasting now (claims id))));
    }

-- what is stored stays so, whether or not new articles are taken
pub spares_while : (paused : Bool) (s now : ℕ) (lasting : Option ℕ) (token : Token) (moment : ℕ)
    → after_while paused s now (standing lasting now (Stored token moment))
    ≡ Stored token moment
spares_while true s now lasting token moment = refl
spares_while false s now lasting token moment = refl
