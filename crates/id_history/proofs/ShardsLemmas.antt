-- What holds of a message-id's own shard holds of the sixteen together.
use Rattle.std.proofs.Common.{◌≡◌, ◌≢◌, ◌∙◌, ◌<◌, ap, sym, subst, refl, Bool, true, false}
use Rattle.std.proofs.Common.{arith, inl, inr, cond, List, ℕ, length, eqb}
use Rattle.std.proofs.Math.ListN.{get_or, set}
use Rattle.std.proofs.Math.Nat.{mod-lt}
use Rattle.std.proofs.lemmas.Bool.{eqb-true, eq-eqb}
use Rattle.std.proofs.lemmas.Bool.Decides.{eqb_tells}
use Rattle.std.proofs.lemmas.List.{get_or-set_same, get_or-set_other}
use Rattle.std.proofs.lemmas.Option.{slice_get-get_or}
use Rattle.std.proofs.lemmas.Slice.Eq.{bytes_eq-Decides}
use Rattle.std.specs.Prelude.{slice_get, Option, None, Some, Result, Ok, Err, IfOk}
use Rattle.std.specs.List.{sum}
use Rattle.std.specs.Str.{bytes_eq}
use Rattle.relay_model.specs.Claims.{Claim, Unknown}
use Rattle.relay_model.specs.Run.{shard_of}
use Rattle.relay_model.specs.State.{put_id}
use Rattle.id_history.specs.Changes.{OfClaim, ChangesClaim, KeepsClaims}
use Rattle.id_history.specs.declared.claims.Shard.{Shard}
use Rattle.id_history.specs.declared.shards.Shards.{Shards}
use Rattle.id_history.specs.Mark.{mark_of, claim_of}
use Rattle.id_history.specs.Shard.{mark_at, Keeps}
use Rattle.id_history.specs.Shards.{KeepsAll}
use Rattle.id_history.proofs.ClaimLemmas.{mark_of-claim_of}

-- these claims for the ids of this shard, and for every other id what the shard has of it
unfoldable pub claims_in : Shard → ℕ → (List ℕ → Claim) → List ℕ → Claim
claims_in one k claims id = cond (eqb (shard_of id) k) (claims id) (claim_of (mark_at one id))

-- a mark that is the claim's where it has to be is that of the choice
mark_of-choice : (one : Shard) (claims : List ℕ → Claim) (id : List ℕ) (b : Bool)
    → (b ≡ true → mark_at one id ≡ mark_of (claims id))
    → mark_at one id ≡ mark_of (cond b (claims id) (claim_of (mark_at one id)))
mark_of-choice one claims id true same = same refl
mark_of-choice one claims id false same = sym (mark_of-claim_of (mark_at one id))

-- a shard of the sixteen keeps these claims of its own ids
pub Keeps-in : (shards : Shards) (one : Shard) (k : ℕ) (claims : List ℕ → Claim)
    → one ≡ get_or shards.shards.items k one → KeepsAll shards claims
    → Keeps one (claims_in one k claims)
unfolding claims_in
Keeps-in shards one k claims at keeps = record {
  agrees = λ id. mark_of-choice one claims id (eqb (shard_of id) k) (λ same.
      ap (λ s. mark_at s id) (at ∙ ap (λ n. get_or shards.shards.items n one)
      (sym (eqb-true (shard_of id) k same)))
      ∙ keeps.agrees id one);
}

-- of its own id the claim is the same
pub claims_in-own : (one : Shard) (k : ℕ) (claims : List ℕ → Claim) (id : List ℕ)
    → k ≡ shard_of id → claims_in one k claims id ≡ claims id
unfolding claims_in
claims_in-own one k claims id own =
    ap (λ b. cond b (claims id) (claim_of (mark_at one id))) (eq-eqb (shard_of id) k (sym own))

-- claims that the id's own shard keeps, which are these at the id
pub record Within (one : Shard) (claims : List ℕ → Claim) (id : List ℕ) : Type 0 where
  pub claims_of_one : List ℕ → Claim
  pub keeps : Keeps one claims_of_one
  pub same : claims_of_one id ≡ claims id

-- the id's own shard keeps such claims
pub within : (shards : Shards) (one : Shard) (k : ℕ) (id : List ℕ) (claims : List ℕ → Claim)
    → k ≡ shard_of id → one ≡ get_or shards.shards.items k one → KeepsAll shards claims
    → Within one claims id
within shards one k id claims own at keeps = record {
  claims_of_one = claims_in one k claims;
  keeps = Keeps-in shards one k claims at keeps;
  same = claims_in-own one k claims id own;
}

-- where one shard of the sixteen now keeps what is wanted of its ids, and of other ids nothing else
-- is wanted than before, the sixteen keep what is wanted
pub put_back : (old new : Shards) (later : Shard) (k : ℕ) → k < length old.shards.items
    → new.shards.items ≡ set old.shards.items k later
    → (before after own : List ℕ → Claim) → KeepsAll old before → Keeps later own
    → ((id : List ℕ) → shard_of id ≡ k → own id ≡ after id)
    → ((id : List ℕ) → shard_of id ≢ k → before id ≡ after id) → KeepsAll new after
put_back old new later k in_range is_set before after own keeps kept mine others = record {
  agrees = λ id none.
      ap (λ items. mark_at (get_or items (shard_of id) none) id) is_set
      ∙ elim (eqb_tells (shard_of id) k) [
        | inl same ↦ ap (λ n. mark_at (get_or (set old.shards.items k later) n none) id) same.1
            ∙ ap (λ one. mark_at one id) (get_or-set_same old.shards.items k later none in_range)
            ∙ kept.agrees id ∙ ap mark_of (mine id same.1)
        | inr other ↦ ap (λ one. mark_at one id)
            (get_or-set_other old.shards.items k (shard_of id) later none other.1)
            ∙ keeps.agrees id none ∙ ap mark_of (others id other.1)
      ];
}

-- each message-id has one of the sixteen shards
pub in_range : (shards : Shards) (k : ℕ) (id : List ℕ) → k ≡ shard_of id
    → k < length shards.shards.items
in_range shards k id own = rw (own, shards.sixteen) (mod-lt (sum id) (search arith))

-- where the test fails, the choice is the other one
unless : (b : Bool) (x y : Claim) → (b ≡ true → ⊥) → y ≡ cond b x y
unless true x y never = absurd (never refl)
unless false x y never = refl

-- a change in the id's own shard is one in the sixteen
pub changes : (old new : Shards) (one later : Shard) (k : ℕ) (id : List ℕ) (after : Claim → Claim)
    → k ≡ shard_of id → one ≡ get_or old.shards.items k one
    → new.shards.items ≡ set old.shards.items k later
    → ChangesClaim (Keeps one) (Keeps later) id after
    → ChangesClaim (KeepsAll old) (KeepsAll new) id after
changes old new one later k id after own at is_set changed claims keeps =
    put_back old new later k (in_range old k id own) is_set claims
    (put_id claims id (after (claims id)))
    (put_id (claims_in one k claims) id (after (claims_in one k claims id))) keeps
    (changed (claims_in one k claims) (Keeps-in old one k claims at keeps))
    (λ other mine. rw (
      claims_in-own one k claims id own,
      claims_in-own one k claims other (sym mine),
    ) refl)
    (λ other apart. unless (bytes_eq other id) (after (claims id)) (claims other) (λ same.
    apart (ap shard_of ((bytes_eq-Decides other id).0 same) ∙ sym own)))

-- where the id's own shard keeps its claims, the sixteen do
pub keeps_claims : (old new : Shards) (one later : Shard) (k : ℕ) (id : List ℕ)
    → k ≡ shard_of id → one ≡ get_or old.shards.items k one
    → new.shards.items ≡ set old.shards.items k later
    → KeepsClaims (Keeps one) (Keeps later) → KeepsClaims (KeepsAll old) (KeepsAll new)
keeps_claims old new one later k id own at is_set kept claims keeps =
    put_back old new later k (in_range old k id own) is_set claims claims (claims_in one k claims)
    keeps (kept (claims_in one k claims) (Keeps-in old one k claims at keeps))
    (λ other mine. claims_in-own one k claims other (sym mine)) (λ other apart. refl)

-- what holds of the claim in its shard holds of it in the sixteen
pub of_claim : (shards : Shards) (one : Shard) (k : ℕ) (id : List ℕ) (P : Claim → Type 0)
    → k ≡ shard_of id → one ≡ get_or shards.shards.items k one
    → OfClaim (Keeps one) id P → OfClaim (KeepsAll shards) id P
of_claim shards one k id P own at of claims keeps =
    let found = within shards one k id claims own at keeps in
    subst P found.same (of found.claims_of_one found.keeps)

-- the same of an answer, where there is one
pub if_ok_of_claim : {A E : Type 0} (r : Result A E) (shards : Shards) (one : Shard) (k : ℕ)
    (id : List ℕ) (P : A → Claim → Type 0)
    → k ≡ shard_of id → one ≡ get_or shards.shards.items k one
    → IfOk r (λ a. OfClaim (Keeps one) id (P a)) → IfOk r (λ a. OfClaim (KeepsAll shards) id (P a))
if_ok_of_claim (Ok a) shards one k id P own at of = of_claim shards one k id (P a) own at of
if_ok_of_claim (Err e) shards one k id P own at of = of

-- a claim of what the shard has of the id
claim_by : Option Shard → List ℕ → Claim
claim_by None id = Unknown
claim_by (Some one) id = claim_of (mark_at one id)

-- of each id a claim of what its own shard has
pub kept_by : Shards → List ℕ → Claim
kept_by shards id = claim_by (slice_get shards.shards.items (shard_of id)) id

-- these the sixteen keep
pub kept_by-all : (shards : Shards) → KeepsAll shards (kept_by shards)
unfolding claim_by kept_by
kept_by-all shards = record {
  agrees = λ id none.
      sym (mark_of-claim_of (mark_at (get_or shards.shards.items (shard_of id) none) id))
      ∙ ap (λ one. mark_of (claim_by one id)) (sym (slice_get-get_or shards.shards.items
      (shard_of id) none (in_range shards (shard_of id) id refl)));
}
