-- Nothing is being stored in the world in which ids are remembered.
use Rattle.std.proofs.Common.{◌≡◌, ℕ, List, false, codes, refl}
use Rattle.std.proofs.lemmas.Bool.{cond_both}
use Rattle.std.specs.Prelude.{bytes_eq}
use Rattle.relay_model.specs.Claims.{Claim, Unknown, Offered, Stored, Refused, is_storing}
use Rattle.relay_model.specs.State.{put_id}
use Rattle.relay_laws.specs.Terms.{now}
use Rattle.relay_laws.specs.Worlds.{remembering, three_blocks_at}

-- an id isn't being stored where neither the new claim nor any other says so
not_storing : (claims : List ℕ → Claim) (k : List ℕ) (claim : Claim) (id : List ℕ)
    → is_storing claim ≡ false → is_storing (claims id) ≡ false
    → is_storing (put_id claims k claim id) ≡ false
not_storing claims k claim id new old =
    cond_both (bytes_eq id k) claim (claims id) (λ (c : Claim). is_storing c ≡ false)
    (λ e. new) (λ e. old)

-- the claims, id by id
abbrev first : List ℕ → Claim
first = put_id (λ id. Unknown) (codes "<1@x>") (Stored (three_blocks_at 0 0) now)

abbrev second : List ℕ → Claim
second = put_id first (codes "<2@x>") (Stored (three_blocks_at 0 3) now)

abbrev third : List ℕ → Claim
third = put_id second (codes "<e@x>") (Refused now)

-- no id is being stored
pub none_storing : (failures : ℕ → ℕ) (id : List ℕ)
    → is_storing ((remembering failures).state.claim id) ≡ false
none_storing failures id =
    not_storing third (codes "<o@x>") (Offered 1 now) id refl
    (not_storing second (codes "<e@x>") (Refused now) id refl
    (not_storing first (codes "<2@x>") (Stored (three_blocks_at 0 3) now) id refl
    (not_storing (λ other. Unknown) (codes "<1@x>") (Stored (three_blocks_at 0 0) now) id refl
    refl)))
