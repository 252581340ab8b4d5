-- Which steps of a claim store nothing new and give nothing up.
use Rattle.std.proofs.Common.{◌≡◌, ℕ, Bool, true, false, ◌==◌, ◌&&◌, nat_le, ◌+◌, List, Option}
use Rattle.std.proofs.Common.{None, Some, if◌then◌else◌, sym, subst}
use Rattle.std.proofs.lemmas.Bool.{cond_both}
use Rattle.news_terms.specs.Token.{Token}
use Rattle.relay_model.specs.Claims.{Accepted, Claim, Unknown, Offered, Storing, Stored, Refused}
use Rattle.relay_model.specs.Claims.{Stage, Passed, is_passed, after_offer, after_refuse}
use Rattle.relay_model.specs.Claims.{after_release, after_expire, has_run_out, standing}
use Rattle.relay_model.specs.Run.{forgetting, shard_of}
use Rattle.relay_model.specs.State.{State, put_id}
use Rattle.relay_facts.proofs.Puts.{put_id_both, same_id}
use Rattle.relay_facts.proofs.Unmoved.{StoresAlike}

-- one is being stored as the other is
pub record IsAlike (before after : Claim) : Type 0 where
  pub earlier : (s : ℕ) (article : Accepted) (stage : Stage) → after ≡ Storing s article stage
      → before ≡ Storing s article stage
  pub later : (s : ℕ) (article : Accepted) (stage : Stage) → before ≡ Storing s article stage
      → after ≡ Storing s article stage

-- a claim that stays is alike
pub is_same : (claim : Claim) → IsAlike claim claim
is_same claim = record { earlier = λ s article stage e. e; later = λ s article stage e. e }

-- none of the two is being stored
abbrev IsNotStored : Claim → Type 0
IsNotStored claim = (s : ℕ) (article : Accepted) (stage : Stage) → claim ≡ Storing s article stage
    → ⊥

-- two claims of which nothing is stored are alike
neither : (before after : Claim) → IsNotStored before → IsNotStored after → IsAlike before after
neither before after one other = record {
  earlier = λ s article stage e. absurd (other s article stage e);
  later = λ s article stage e. absurd (one s article stage e);
}

-- nothing is stored of an unknown id
unknown_not : IsNotStored Unknown
unknown_not s article stage e = absurd (cc)

-- nor of an offered one
offered_not : (other since : ℕ) → IsNotStored (Offered other since)
offered_not other since s article stage e = absurd (cc)

-- nor of one that was stored
stored_not : (token : Token) (moment : ℕ) → IsNotStored (Stored token moment)
stored_not token moment s article stage e = absurd (cc)

-- nor of one that was refused
refused_not : (moment : ℕ) → IsNotStored (Refused moment)
refused_not moment s article stage e = absurd (cc)

-- by whether a rule changes the claim
by_test : (before one other : Claim) (test : Bool) → IsAlike before one → IsAlike before other
    → IsAlike before (if test then one else other)
by_test before one other true first second = first
by_test before one other false first second = second

-- CHECK and IHAVE
pub offer_alike : (offers : Option ℕ) (s now : ℕ) (claim : Claim)
    → IsAlike claim (after_offer s now (standing offers now claim))
offer_alike offers s now Unknown = neither Unknown (Offered s now) unknown_not (offered_not s now)
offer_alike offers s now (Offered other since) =
    cond_both (has_run_out offers since now) Unknown (Offered other since)
    (λ claim. IsAlike (Offered other since) (after_offer s now claim))
    (λ e. neither (Offered other since) (Offered s now) (offered_not other since)
    (offered_not s now)) (λ e. is_same (Offered other since))
offer_alike offers s now (Storing other article stage) = is_same (Storing other article stage)
offer_alike offers s now (Stored token moment) = is_same (Stored token moment)
offer_alike offers s now (Refused moment) = is_same (Refused moment)

-- an article that was refused
pub refuse_alike : (offers : Option ℕ) (s now : ℕ) (claim : Claim)
    → IsAlike claim (after_refuse s now (standing offers now claim))
refuse_alike offers s now Unknown = neither Unknown (Refused now) unknown_not (refused_not now)
refuse_alike offers s now (Offered other since) =
    cond_both (has_run_out offers since now) Unknown (Offered other since)
    (λ claim. IsAlike (Offered other since) (after_refuse s now claim))
    (λ e. marked)
    (λ e. by_test (Offered other since) (Refused now) (Offered other since) (other == s) marked
    (is_same (Offered other since)))
  where
    marked : IsAlike (Offered other since) (Refused now)
    marked =
        neither (Offered other since) (Refused now) (offered_not other since) (refused_not now)
refuse_alike offers s now (Storing other article stage) = is_same (Storing other article stage)
refuse_alike offers s now (Stored token moment) = is_same (Stored token moment)
refuse_alike offers s now (Refused moment) = is_same (Refused moment)

-- an open offer that ends
pub release_alike : (s : ℕ) (claim : Claim) → IsAlike claim (after_release s claim)
release_alike s Unknown = is_same Unknown
release_alike s (Offered other since) =
    by_test (Offered other since) Unknown (Offered other since) (other == s)
    (neither (Offered other since) Unknown (offered_not other since) unknown_not)
    (is_same (Offered other since))
release_alike s (Storing other article stage) = is_same (Storing other article stage)
release_alike s (Stored token moment) = is_same (Stored token moment)
release_alike s (Refused moment) = is_same (Refused moment)

-- Expire, of one id
pub expire_alike : (now remember : ℕ) (fronts : List Passed) (claim : Claim)
    → IsAlike claim (after_expire now remember fronts claim)
expire_alike now remember fronts Unknown = is_same Unknown
expire_alike now remember fronts (Offered other since) = is_same (Offered other since)
expire_alike now remember fronts (Storing other article stage) =
    is_same (Storing other article stage)
expire_alike now remember fronts (Stored token moment) =
    by_test (Stored token moment) Unknown (Stored token moment)
    (nat_le (moment + remember) now && is_passed fronts token)
    (neither (Stored token moment) Unknown (stored_not token moment) unknown_not)
    (is_same (Stored token moment))
expire_alike now remember fronts (Refused moment) =
    by_test (Refused moment) Unknown (Refused moment) (nat_le (moment + remember) now)
    (neither (Refused moment) Unknown (refused_not moment) unknown_not) (is_same (Refused moment))

-- Expire, of the ids of a shard
pub forgetting_alike : (claim : List ℕ → Claim) (shard now : ℕ) (remember : Option ℕ)
    (fronts : List Passed) (id : List ℕ)
    → IsAlike (claim id) (forgetting claim shard now remember fronts id)
forgetting_alike claim shard now None fronts id = is_same (claim id)
forgetting_alike claim shard now (Some remember) fronts id =
    by_test (claim id) (after_expire now remember fronts (claim id)) (claim id)
    (shard_of id == shard)
    (expire_alike now remember fronts (claim id)) (is_same (claim id))

-- all claims alike
pub all_alike : (σ τ : State) → ((id : List ℕ) → IsAlike (σ.claim id) (τ.claim id))
    → StoresAlike σ τ
all_alike σ τ same = record { earlier = λ id. (same id).earlier; later = λ id. (same id).later }

-- one claim changed to one alike
pub put_alike : (σ τ : State) (id : List ℕ) (claim : Claim)
    → ((k : List ℕ) → τ.claim k ≡ put_id σ.claim id claim k)
    → IsAlike (σ.claim id) claim → StoresAlike σ τ
put_alike σ τ id claim puts same = all_alike σ τ each
  where
    each : (k : List ℕ) → IsAlike (σ.claim k) (τ.claim k)
    each k =
        subst (IsAlike (σ.claim k)) (sym (puts k))
        (put_id_both (IsAlike (σ.claim k)) σ.claim id claim k
        (λ e. subst (λ n. IsAlike (σ.claim n) claim) (sym (same_id k id e)) same)
        (λ e. is_same (σ.claim k)))
