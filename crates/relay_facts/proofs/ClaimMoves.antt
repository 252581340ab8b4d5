-- How a step that neither begins nor ends a write changes a claim: it stays, or nothing is begun
-- for it before and after, and its moment is one that there is, or what was stored is forgotten.
use Rattle.std.proofs.Common.{◌≡◌, ◌∙◌, ℕ, ◌+◌, ◌≤◌, ◌==◌, ◌&&◌, nat_le, Bool, true, false, List}
use Rattle.std.proofs.Common.{Option}
use Rattle.std.proofs.Common.{None}
use Rattle.std.proofs.Common.{Some, if◌then◌else◌, refl, sym, ap, subst, true≢false}
use Rattle.std.proofs.lemmas.Bool.{cond_both}
use Rattle.news_terms.specs.Token.{Token}
use Rattle.relay_model.specs.Claims.{Accepted, Claim, Unknown, Offered, Storing, Stored, Refused}
use Rattle.relay_model.specs.Claims.{Waiting, Begun, Failed, Whole, Passed, is_passed, after_offer}
use Rattle.relay_model.specs.Claims.{after_take, after_refuse, after_release, after_expire}
use Rattle.relay_model.specs.Claims.{after_restart, has_run_out, standing}
use Rattle.relay_model.specs.OnRecord.{IsTimed}
use Rattle.relay_model.specs.Run.{forgetting, shard_of}
use Rattle.relay_model.specs.State.{put_id}
use Rattle.relay_model.specs.Terms.{last_moment}
use Rattle.relay_facts.proofs.Puts.{put_id_both, same_id}

-- nothing is begun for the message-id, and nothing is stored
abbrev pub is_early : Claim → Bool
is_early Unknown = true
is_early (Offered session since) = true
is_early (Storing session article Waiting) = true
is_early (Storing session article (Begun token)) = false
is_early (Storing session article Failed) = false
is_early (Storing session article (Whole token)) = false
is_early (Stored token moment) = false
is_early (Refused moment) = true

-- how the claim goes on
pub data ClaimGoes (before after : Claim) : Type 0 where
  Stays : after ≡ before → ClaimGoes before after
  IsEarly : is_early before ≡ true → is_early after ≡ true → IsTimed after → ClaimGoes before after
  IsForgotten : (token : Token) (moment : ℕ) → before ≡ Stored token moment → after ≡ Unknown
      → ClaimGoes before after

-- by whether a rule changes it
by_test : (before one other : Claim) (test : Bool) → ClaimGoes before one → ClaimGoes before other
    → ClaimGoes before (if test then one else other)
by_test before one other true first second = first
by_test before one other false first second = second

-- CHECK and IHAVE
pub offer_goes : (offers : Option ℕ) (s now : ℕ) (claim : Claim)
    → ClaimGoes claim (after_offer s now (standing offers now claim))
offer_goes offers s now Unknown = IsEarly refl refl tt
offer_goes offers s now (Offered other since) =
    cond_both (has_run_out offers since now) Unknown (Offered other since)
    (λ claim. ClaimGoes (Offered other since) (after_offer s now claim))
    (λ e. IsEarly refl refl tt) (λ e. Stays refl)
offer_goes offers s now (Storing other article stage) = Stays refl
offer_goes offers s now (Stored token moment) = Stays refl
offer_goes offers s now (Refused moment) = Stays refl

-- an article that was accepted
pub take_goes : (s : ℕ) (article : Accepted) (claim : Claim)
    → ClaimGoes claim (after_take s article claim)
take_goes s article Unknown = IsEarly refl refl tt
take_goes s article (Offered other since) = IsEarly refl refl tt
take_goes s article (Storing other stored stage) = Stays refl
take_goes s article (Stored token moment) = Stays refl
take_goes s article (Refused moment) = Stays refl

-- an article that was refused
pub refuse_goes : (offers : Option ℕ) (s now : ℕ) → now ≤ last_moment → (claim : Claim)
    → ClaimGoes claim (after_refuse s now (standing offers now claim))
refuse_goes offers s now timed Unknown = IsEarly refl refl timed
refuse_goes offers s now timed (Offered other since) =
    cond_both (has_run_out offers since now) Unknown (Offered other since)
    (λ claim. ClaimGoes (Offered other since) (after_refuse s now claim))
    (λ e. IsEarly refl refl timed)
    (λ e. by_test (Offered other since) (Refused now) (Offered other since) (other == s)
    (IsEarly refl refl timed) (Stays refl))
refuse_goes offers s now timed (Storing other article stage) = Stays refl
refuse_goes offers s now timed (Stored token moment) = Stays refl
refuse_goes offers s now timed (Refused moment) = Stays refl

-- an open offer that ends
pub release_goes : (s : ℕ) (claim : Claim) → ClaimGoes claim (after_release s claim)
release_goes s Unknown = Stays refl
release_goes s (Offered other since) =
    by_test (Offered other since) Unknown (Offered other since) (other == s)
    (IsEarly refl refl tt) (Stays refl)
release_goes s (Storing other article stage) = Stays refl
release_goes s (Stored token moment) = Stays refl
release_goes s (Refused moment) = Stays refl

-- Expire, of one id
expire_goes : (now remember : ℕ) (fronts : List Passed) (claim : Claim)
    → ClaimGoes claim (after_expire now remember fronts claim)
expire_goes now remember fronts Unknown = Stays refl
expire_goes now remember fronts (Offered other since) = Stays refl
expire_goes now remember fronts (Storing other article stage) = Stays refl
expire_goes now remember fronts (Stored token moment) =
    by_test (Stored token moment) Unknown (Stored token moment)
    (nat_le (moment + remember) now && is_passed fronts token)
    (IsForgotten token moment refl refl) (Stays refl)
expire_goes now remember fronts (Refused moment) =
    by_test (Refused moment) Unknown (Refused moment) (nat_le (moment + remember) now)
    (IsEarly refl refl tt) (Stays refl)

-- Expire, of the ids of a shard
pub forgetting_goes : (claim : List ℕ → Claim) (shard now : ℕ) (remember : Option ℕ)
    (fronts : List Passed) (id : List ℕ)
    → ClaimGoes (claim id) (forgetting claim shard now remember fronts id)
forgetting_goes claim shard now None fronts id = Stays refl
forgetting_goes claim shard now (Some remember) fronts id =
    by_test (claim id) (after_expire now remember fronts (claim id)) (claim id)
    (shard_of id == shard) (expire_goes now remember fronts (claim id)) (Stays refl)

-- Restart
pub restart_goes : (claim : Claim) → ClaimGoes claim (after_restart claim)
restart_goes Unknown = Stays refl
restart_goes (Offered other since) = IsEarly refl refl tt
restart_goes (Storing other article stage) = Stays refl
restart_goes (Stored token moment) = Stays refl
restart_goes (Refused moment) = Stays refl

-- one id's claim changes so, and every other stays
pub put_goes : (claim : List ℕ → Claim) (id : List ℕ) (new : Claim) → ClaimGoes (claim id) new
    → (k : List ℕ) → ClaimGoes (claim k) (put_id claim id new k)
put_goes claim id new goes k =
    put_id_both (ClaimGoes (claim k)) claim id new k
    (λ same. subst (λ n. ClaimGoes (claim n) new) (sym (same_id k id same)) goes)
    (λ other. Stays refl)

-- a claim that goes on has a moment that there is, if it had
pub goes_timed : (before after : Claim) → ClaimGoes before after → IsTimed before → IsTimed after
goes_timed before after (Stays same) timed = subst IsTimed (sym same) timed
goes_timed before after (IsEarly one other new) timed = new
goes_timed before after (IsForgotten had moment was is) timed = subst IsTimed (sym is) tt

-- it is none that isn't early but where it was that one
goes_late : (before after late : Claim) → ClaimGoes before after → is_early late ≡ false
    → after ≡ late → before ≡ late
goes_late before after late (Stays same) is_late e = sym same ∙ e
goes_late before after late (IsEarly one other new) is_late e =
    absurd (true≢false (sym other ∙ ap is_early e ∙ is_late))
goes_late before after late (IsForgotten had moment was is) is_late e =
    absurd (true≢false (sym (ap is_early is) ∙ ap is_early e ∙ is_late))

-- so it is begun only where it was
pub goes_begun : (before after : Claim) → ClaimGoes before after → (s : ℕ) (article : Accepted)
    (token : Token) → after ≡ Storing s article (Begun token)
    → before ≡ Storing s article (Begun token)
goes_begun before after goes s article token =
    goes_late before after (Storing s article (Begun token)) goes refl

-- whole only where it was
pub goes_whole : (before after : Claim) → ClaimGoes before after → (s : ℕ) (article : Accepted)
    (token : Token) → after ≡ Storing s article (Whole token)
    → before ≡ Storing s article (Whole token)
goes_whole before after goes s article token =
    goes_late before after (Storing s article (Whole token)) goes refl

-- and stored only where it was
pub goes_stored : (before after : Claim) → ClaimGoes before after → (token : Token) (moment : ℕ)
    → after ≡ Stored token moment → before ≡ Stored token moment
goes_stored before after goes token moment =
    goes_late before after (Stored token moment) goes refl
