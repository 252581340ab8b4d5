-- What was said of a message-id last.
use Rattle.std.proofs.Common.{◌≡◌, ◌∙◌, ap, sym, refl, Bool, true, false, cond, List, ℕ, []}
use Rattle.std.proofs.Common.{◌∷◌, ◌++◌, Option, None, Some}
use Rattle.std.proofs.lemmas.Slice.Eq.{bytes_eq-Decides}
use Rattle.std.specs.Str.{bytes_eq}
use Rattle.id_history.specs.History.{KeptId}
use Rattle.id_history.specs.Lasting.{claim_of_kept, claim_since, lasting, put_all}
use Rattle.news_terms.specs.Token.{Token}
use Rattle.relay_model.specs.Claims.{Claim, Unknown, Offered, Storing, Stored, Refused}
use Rattle.relay_model.specs.State.{put_id}
use Rattle.relay_log.specs.Folding.{nothing}

-- what is known of an id, or else this
abbrev pub or_else : Claim → Claim → Claim
or_else Unknown other = other
or_else (Offered session since) other = Offered session since
or_else (Storing session article stage) other = Storing session article stage
or_else (Stored token moment) other = Stored token moment
or_else (Refused moment) other = Refused moment

or_else-assoc : (a b c : Claim) → or_else (or_else a b) c ≡ or_else a (or_else b c)
or_else-assoc Unknown b c = refl
or_else-assoc (Offered session since) b c = refl
or_else-assoc (Storing session article stage) b c = refl
or_else-assoc (Stored token moment) b c = refl
or_else-assoc (Refused moment) b c = refl

or_else-unknown : (a : Claim) → or_else a Unknown ≡ a
or_else-unknown Unknown = refl
or_else-unknown (Offered session since) = refl
or_else-unknown (Storing session article stage) = refl
or_else-unknown (Stored token moment) = refl
or_else-unknown (Refused moment) = refl

pub or_else-twice : (a b : Claim) → or_else a (or_else a b) ≡ or_else a b
or_else-twice Unknown b = refl
or_else-twice (Offered session since) b = refl
or_else-twice (Storing session article stage) b = refl
or_else-twice (Stored token moment) b = refl
or_else-twice (Refused moment) b = refl

-- what is remembered is known
since_known : (token : Option Token) (moment : ℕ) (other : Claim)
    → claim_since token moment ≡ or_else (claim_since token moment) other
since_known None moment other = refl
since_known (Some token) moment other = refl

-- what was said last is what was said later, or else what was known before
pub said_after : (base : List ℕ → Claim) (later : List KeptId) (id : List ℕ)
    → put_all base later id ≡ or_else (put_all nothing later id) (base id)
said_after base [] id = refl
said_after base (one ∷ later) id =
    said_after (put_id base one.id (claim_of_kept one)) later id
    ∙ ap (or_else (put_all nothing later id)) (first (bytes_eq id one.id))
    ∙ sym (or_else-assoc (put_all nothing later id) (put_id nothing one.id (claim_of_kept one) id)
    (base id))
    ∙ ap (λ (x : Claim). or_else x (base id))
    (sym (said_after (put_id nothing one.id (claim_of_kept one)) later id))
  where
    first : (b : Bool)
        → cond b (claim_of_kept one) (base id)
        ≡ or_else (cond b (claim_of_kept one) Unknown) (base id)
    first true = since_known one.token one.moment (base id)
    first false = refl

-- what is said before all else is what is known of an id of which nothing was
pub said_before : (one : KeptId) (later : List KeptId) (other : List ℕ)
    → put_id (put_all nothing later) one.id
    (or_else (put_all nothing later one.id) (claim_of_kept one)) other
    ≡ put_all nothing (one ∷ later) other
said_before one later other = by (bytes_eq other one.id) refl
  where
    here : (b : Bool) → bytes_eq other one.id ≡ b
        → or_else (put_all nothing later other) (cond b (claim_of_kept one) Unknown)
        ≡ put_all nothing (one ∷ later) other
    here b at =
        ap (λ (x : Bool).
        or_else (put_all nothing later other) (cond x (claim_of_kept one) Unknown)) (sym at)
        ∙ sym (said_after (put_id nothing one.id (claim_of_kept one)) later other)

    by : (b : Bool) → bytes_eq other one.id ≡ b
        → cond b (or_else (put_all nothing later one.id) (claim_of_kept one))
        (put_all nothing later other)
        ≡ put_all nothing (one ∷ later) other
    by true at =
        ap (λ (x : List ℕ). or_else (put_all nothing later x) (claim_of_kept one))
        (sym ((bytes_eq-Decides other one.id).0 at))
        ∙ here true at
    by false at = sym (or_else-unknown (put_all nothing later other)) ∙ here false at

-- what is said of an id lasts
since_lasts : (token : Option Token) (moment : ℕ)
    → lasting (claim_since token moment) ≡ claim_since token moment
since_lasts None moment = refl
since_lasts (Some token) moment = refl

said_lasts : (base : List ℕ → Claim) → ((id : List ℕ) → lasting (base id) ≡ base id)
    → (said : List KeptId) (id : List ℕ) → lasting (put_all base said id) ≡ put_all base said id
said_lasts base lasts [] id = lasts id
said_lasts base lasts (one ∷ said) id =
    said_lasts (put_id base one.id (claim_of_kept one))
    (λ (other : List ℕ). by other (bytes_eq other one.id)) said id
  where
    by : (other : List ℕ) (b : Bool)
        → lasting (cond b (claim_of_kept one) (base other))
        ≡ cond b (claim_of_kept one) (base other)
    by other true = since_lasts one.token one.moment
    by other false = lasts other

pub all_last : (said : List KeptId) (id : List ℕ)
    → lasting (put_all nothing said id) ≡ put_all nothing said id
all_last said id = said_lasts nothing (λ other. refl) said id

-- what is said in two parts
pub put_both : (base : List ℕ → Claim) (first rest : List KeptId)
    → put_all base (first ++ rest) ≡ put_all (put_all base first) rest
put_both base [] rest = refl
put_both base (one ∷ first) rest = put_both (put_id base one.id (claim_of_kept one)) first rest
