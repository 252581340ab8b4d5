-- What a session's step does to its open offers, and to what is offered to it.
use Rattle.std.proofs.Common.{◌≡◌, ◌∙◌, ℕ, Bool, true, false, not, List, [], ◌∷◌, ◌++◌, ◌==◌, ◌||◌}
use Rattle.std.proofs.Common.{bytes_eq, ◌⊎◌, inl, inr, if◌then◌else◌, refl, sym, ap, subst, Option}
use Rattle.std.proofs.Common.{eqb-true}
use Rattle.std.proofs.lemmas.Bool.{cond_both, cases_Bool, cond-true, or_left, or_right, eqb-false}
use Rattle.std.proofs.lemmas.Bool.{false≢true, not_from_false, false_from_ne_true}
use Rattle.std.proofs.lemmas.List.Folds.{list_any-append}
use Rattle.relay_model.specs.Asks.{is_open, with_offer, without_offer}
use Rattle.relay_model.specs.Claims.{Accepted, Claim, Unknown, Offered, Storing, Stored, Refused}
use Rattle.relay_model.specs.Claims.{after_offer, after_take, after_refuse, after_release}
use Rattle.relay_model.specs.Claims.{offer_answer, OfferAnswer, Wanted, Later, Seen}
use Rattle.relay_model.specs.Claims.{has_run_out, standing}
use Rattle.relay_model.specs.State.{OpenOffer}
use Rattle.relay_facts.proofs.Puts.{same_id, is_itself}

-- the open offers once an offer of this id was answered, by those while it was asked
abbrev pub offers_left : OfferAnswer → List OpenOffer → List ℕ → List OpenOffer
offers_left Wanted offers id = offers
offers_left Later offers id = without_offer offers id
offers_left Seen offers id = without_offer offers id

-- what a session does to the claim on one id and to its open offers
pub data Touches (s : ℕ) (id : List ℕ) (claim claim' : Claim) (before after : List OpenOffer)
    : Type 0 where
  Offers : (lasting : Option ℕ) (now : ℕ)
      → claim' ≡ after_offer s now (standing lasting now claim)
      → after
      ≡ offers_left (offer_answer s (standing lasting now claim)) (with_offer before id now) id
      → Touches s id claim claim' before after
  Refuses : (lasting : Option ℕ) (now : ℕ)
      → claim' ≡ after_refuse s now (standing lasting now claim)
      → after ≡ without_offer before id → Touches s id claim claim' before after
  Takes : (article : Accepted) → claim' ≡ after_take s article claim
      → (after ≡ without_offer before id) ⊎ (after ≡ before)
      → Touches s id claim claim' before after
  Releases : (since : ℕ) → claim' ≡ after_release s claim
      → before ≡ record { id = id; since = since } ∷ after
      → Touches s id claim claim' before after

-- an open offer stays open where another one is opened
pub stays_with : (offers : List OpenOffer) (id : List ℕ) (now : ℕ) (other : List ℕ)
    → is_open offers other ≡ true → is_open (with_offer offers id now) other ≡ true
stays_with offers id now other is =
    let new : OpenOffer = record { id = id; since = now } in
    cond_both (is_open offers id) offers (offers ++ new ∷ []) (λ after. is_open after other ≡ true)
    (λ e. is)
    (λ e. list_any-append (λ (offer : OpenOffer). bytes_eq other offer.id) offers (new ∷ [])
    ∙ or_left (is_open offers other) (is_open (new ∷ []) other) is)

-- an offer is open once it was opened
pub opens : (offers : List OpenOffer) (id : List ℕ) (now : ℕ)
    → is_open (with_offer offers id now) id ≡ true
opens offers id now =
    let new : OpenOffer = record { id = id; since = now } in
    cond_both (is_open offers id) offers (offers ++ new ∷ []) (λ after. is_open after id ≡ true)
    (λ e. e)
    (λ e. list_any-append (λ (offer : OpenOffer). bytes_eq id offer.id) offers (new ∷ [])
    ∙ or_right (is_open offers id) (is_open (new ∷ []) id)
    (or_left (bytes_eq id id) false (is_itself id)))

-- an open offer of another id passes the test of those that stay
pub passes : (id offer other : List ℕ) → bytes_eq other id ≡ false → bytes_eq other offer ≡ true
    → not (bytes_eq id offer) ≡ true
passes id offer other differs same =
    not_from_false (bytes_eq id offer)
    (false_from_ne_true (bytes_eq id offer)
    (λ e. false≢true
    (sym differs
    ∙ ap (λ x. bytes_eq x id) (same_id other offer same ∙ sym (same_id id offer e))
    ∙ is_itself id)))

-- an open offer stays open where another one ends
pub stays_without : (offers : List OpenOffer) (id other : List ℕ) → bytes_eq other id ≡ false
    → is_open offers other ≡ true → is_open (without_offer offers id) other ≡ true
stays_without [] id other differs is = is
stays_without (offer ∷ offers) id other differs is =
    stays_one offer offers id other differs (stays_without offers id other differs)
    (cases_Bool (bytes_eq other offer.id)) is
  where
    stays_one : (offer : OpenOffer) (offers : List OpenOffer) (id other : List ℕ)
        → bytes_eq other id ≡ false
        → (is_open offers other ≡ true → is_open (without_offer offers id) other ≡ true)
        → (bytes_eq other offer.id ≡ true) ⊎ (bytes_eq other offer.id ≡ false)
        → is_open (offer ∷ offers) other ≡ true
        → is_open (without_offer (offer ∷ offers) id) other ≡ true
    stays_one offer offers id other differs stays (inl same) is =
        ap (λ after. is_open after other)
        (cond-true (not (bytes_eq id offer.id)) (offer ∷ without_offer offers id)
        (without_offer offers id)
        (passes id offer.id other differs same))
        ∙ or_left (bytes_eq other offer.id) (is_open (without_offer offers id) other) same
    stays_one offer offers id other differs stays (inr differ) is =
        let rest : is_open (without_offer offers id) other ≡ true =
        stays (sym (ap (λ test. test || is_open offers other) differ) ∙ is) in
        cond_both (not (bytes_eq id offer.id)) (offer ∷ without_offer offers id)
        (without_offer offers id)
        (λ after. is_open after other ≡ true)
        (λ e. or_right (bytes_eq other offer.id) (is_open (without_offer offers id) other) rest)
        (λ e. rest)

-- an open offer stays open where the oldest one, another, ends
pub stays_behind : (oldest : OpenOffer) (offers : List OpenOffer) (other : List ℕ)
    → bytes_eq other oldest.id ≡ false
    → is_open (oldest ∷ offers) other ≡ true → is_open offers other ≡ true
stays_behind oldest offers other differs is =
    sym (ap (λ test. test || is_open offers other) differs)
    ∙ is

-- the open offers after a CHECK, at another id
pub left_stays : (answer : OfferAnswer) (offers : List OpenOffer) (id other : List ℕ)
    → bytes_eq other id ≡ false → is_open offers other ≡ true
    → is_open (offers_left answer offers id) other ≡ true
left_stays Wanted offers id other differs is = is
left_stays Later offers id other differs is = stays_without offers id other differs is
left_stays Seen offers id other differs is = stays_without offers id other differs is

-- after a session's step an id that is offered to the session is open, and one that is offered to
-- another was offered to it before
abbrev pub IsOffered : (s t since : ℕ) → Claim → List OpenOffer → List ℕ → Type 0
IsOffered s t since claim offers id =
    ((t ≡ s) × (is_open offers id ≡ true)) ⊎ ((t ≡ s → ⊥) × (claim ≡ Offered t since))

-- CHECK, of an id that is offered to a session
other_offered : (s t since now other made : ℕ) (offers : List OpenOffer) (id : List ℕ)
    → Offered other made ≡ Offered t since → (other == s) ≡ true ⊎ (other == s) ≡ false
    → IsOffered s t since (Offered other made)
    (offers_left (offer_answer s (Offered other made)) (with_offer offers id now) id) id
other_offered s t since now other made offers id e (inl same) =
    let by : other ≡ t = cc in
    inl (
      sym by ∙ eqb-true other s same,
      ap (λ answer. is_open (offers_left answer (with_offer offers id now) id) id)
          (cond-true (other == s) Wanted Later same)
          ∙ opens offers id now,
    )
other_offered s t since now other made offers id e (inr differ) =
    let by : other ≡ t = cc in
    inr ((λ is. eqb-false other s differ (by ∙ is)), e)

-- CHECK
pub offer_offered : (lasting : Option ℕ) (s t since now : ℕ) (claim : Claim)
    (offers : List OpenOffer) (id : List ℕ)
    → after_offer s now (standing lasting now claim) ≡ Offered t since
    → IsOffered s t since claim
    (offers_left (offer_answer s (standing lasting now claim)) (with_offer offers id now) id) id
offer_offered lasting s t since now Unknown offers id e = inl (cc, opens offers id now)
offer_offered lasting s t since now (Offered other made) offers id e =
    by (has_run_out lasting made now) e
  where
    by : (test : Bool)
        → after_offer s now (if test then Unknown else Offered other made) ≡ Offered t since
        → IsOffered s t since (Offered other made)
        (offers_left (offer_answer s (if test then Unknown else Offered other made))
        (with_offer offers id now) id) id
    by true is = inl (cc, opens offers id now)
    by false is =
        other_offered s t since now other made offers id is (cases_Bool (other == s))
offer_offered lasting s t since now (Storing other article stage) offers id e = absurd (cc)
offer_offered lasting s t since now (Stored token moment) offers id e = absurd (cc)
offer_offered lasting s t since now (Refused moment) offers id e = absurd (cc)

-- a claim that says that the id is offered to another said so before
abbrev pub WasOffered : (s t since : ℕ) → Claim → Type 0
WasOffered s t since claim = (t ≡ s → ⊥) × (claim ≡ Offered t since)

-- an offer of another session that stays
pub stays_offered : (test : Bool) (s t since other made : ℕ) (new : Claim)
    → (new ≡ Offered t since → ⊥) → (test ≡ false → (other == s) ≡ false)
    → (if test then new else Offered other made) ≡ Offered t since
    → WasOffered s t since (Offered other made)
stays_offered true s t since other made new never tested e = absurd (never e)
stays_offered false s t since other made new never tested e =
    let same : other ≡ t = cc in
    ((λ is. eqb-false other s (tested refl) (same ∙ is)), e)

-- an article that was accepted
pub take_offered : (s t since : ℕ) (article : Accepted) (claim : Claim)
    → after_take s article claim ≡ Offered t since
    → WasOffered s t since claim
take_offered s t since article Unknown e = absurd (cc)
take_offered s t since article (Offered other made) e = absurd (cc)
take_offered s t since article (Storing other stored stage) e = absurd (cc)
take_offered s t since article (Stored token moment) e = absurd (cc)
take_offered s t since article (Refused moment) e = absurd (cc)

-- an article that was refused
pub refuse_offered : (lasting : Option ℕ) (s t since now : ℕ) (claim : Claim)
    → after_refuse s now (standing lasting now claim) ≡ Offered t since
    → WasOffered s t since claim
refuse_offered lasting s t since now Unknown e = absurd (cc)
refuse_offered lasting s t since now (Offered other made) e =
    by (has_run_out lasting made now) e
  where
    by : (test : Bool)
        → after_refuse s now (if test then Unknown else Offered other made) ≡ Offered t since
        → WasOffered s t since (Offered other made)
    by true is = absurd (cc)
    by false is =
        stays_offered (other == s) s t since other made (Refused now) (λ same. cc)
        (λ tested. tested) is
refuse_offered lasting s t since now (Storing other article stage) e = absurd (cc)
refuse_offered lasting s t since now (Stored token moment) e = absurd (cc)
refuse_offered lasting s t since now (Refused moment) e = absurd (cc)

-- a release
pub release_offered : (s t since : ℕ) (claim : Claim) → after_release s claim ≡ Offered t since
    → WasOffered s t since claim
release_offered s t since Unknown e = absurd (cc)
release_offered s t since (Offered other made) e =
    stays_offered (other == s) s t since other made Unknown (λ same. cc) (λ tested. tested) e
release_offered s t since (Storing other article stage) e = absurd (cc)
release_offered s t since (Stored token moment) e = absurd (cc)
release_offered s t since (Refused moment) e = absurd (cc)

-- the open offers of other ids stay open
pub others_stay : (s : ℕ) (id : List ℕ) (claim claim' : Claim) (before after : List OpenOffer)
    → Touches s id claim claim' before after → (other : List ℕ) → bytes_eq other id ≡ false
    → is_open before other ≡ true → is_open after other ≡ true
others_stay s id claim claim' before after (Offers lasting now e offers) other differs is =
    ap (λ list. is_open list other) offers
    ∙ left_stays (offer_answer s (standing lasting now claim)) (with_offer before id now) id other
    differs (stays_with before id now other is)
others_stay s id claim claim' before after (Refuses lasting now e offers) other differs is =
    ap (λ list. is_open list other) offers ∙ stays_without before id other differs is
others_stay s id claim claim' before after (Takes article e (inl offers)) other differs is =
    ap (λ list. is_open list other) offers ∙ stays_without before id other differs is
others_stay s id claim claim' before after (Takes article e (inr offers)) other differs is =
    ap (λ list. is_open list other) offers ∙ is
others_stay s id claim claim' before after (Releases since e offers) other differs is =
    stays_behind (record { id = id; since = since }) after other differs
    (sym (ap (λ list. is_open list other) offers) ∙ is)

-- a session's step
pub offered_after : (s : ℕ) (id : List ℕ) (claim claim' : Claim) (before after : List OpenOffer)
    → Touches s id claim claim' before after → (t since : ℕ) → claim' ≡ Offered t since
    → IsOffered s t since claim after id
offered_after s id claim claim' before after (Offers lasting now e offers) t since is =
    subst (λ list. IsOffered s t since claim list id) (sym offers)
    (offer_offered lasting s t since now claim before id (sym e ∙ is))
offered_after s id claim claim' before after (Refuses lasting now e offers) t since is =
    inr (refuse_offered lasting s t since now claim (sym e ∙ is))
offered_after s id claim claim' before after (Takes article e offers) t since is =
    inr (take_offered s t since article claim (sym e ∙ is))
offered_after s id claim claim' before after (Releases made e offers) t since is =
    inr (release_offered s t since claim (sym e ∙ is))
