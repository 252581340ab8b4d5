-- A call on a message-id's own shard leaves every shard without the ids of the others.
use Rattle.std.proofs.Common.{◌≡◌, ◌≢◌, ◌∙◌, ◌<◌, ap, sym, subst, false}
use Rattle.std.proofs.Common.{inl, inr, cond, List, ℕ, length}
use Rattle.std.proofs.Math.ListN.{get_or, set}
use Rattle.std.proofs.lemmas.Bool.{cases_Bool}
use Rattle.std.proofs.lemmas.Bool.Decides.{eqb_tells}
use Rattle.std.proofs.lemmas.List.{get_or-set_same, get_or-set_other, length-set}
use Rattle.std.proofs.lemmas.Slice.Eq.{bytes_eq-Decides}
use Rattle.std.specs.Prelude.{Result, Ok, Err, OnOk, OnErr}
use Rattle.std.specs.Str.{bytes_eq}
use Rattle.relay_model.specs.Claims.{Claim}
use Rattle.relay_model.specs.Run.{shard_of}
use Rattle.id_history.specs.Changes.{ChangesClaim, KeepsClaims}
use Rattle.id_history.specs.declared.claims.Shard.{Shard}
use Rattle.id_history.specs.Mark.{Unknown, mark_of, claim_of}
use Rattle.id_history.specs.Own.{OwnIds}
use Rattle.id_history.specs.Shard.{mark_at, Keeps}
use Rattle.id_history.proofs.ClaimLemmas.{mark_of-claim_of}

-- the shard has of every other id what it had
pub record KeepsOthers (one later : Shard) (id : List ℕ) : Type 0 where
  pub same : (other : List ℕ) → bytes_eq other id ≡ false → mark_at later other ≡ mark_at one other

-- a claim of each mark that the shard has
unfoldable pub claims_of : Shard → List ℕ → Claim
claims_of one id = claim_of (mark_at one id)

pub claims_of-kept : (one : Shard) → Keeps one (claims_of one)
unfolding claims_of
claims_of-kept one = record { agrees = λ id. sym (mark_of-claim_of (mark_at one id)) }

-- a change of one claim leaves the other ids
pub others_by_change : (one later : Shard) (id : List ℕ) (after : Claim → Claim)
    → ChangesClaim (Keeps one) (Keeps later) id after → KeepsOthers one later id
unfolding claims_of
others_by_change one later id after changed = record {
  same = λ other apart.
      (changed (claims_of one) (claims_of-kept one)).agrees other
      ∙ ap (λ b. mark_of (cond b (after (claims_of one id)) (claims_of one other))) apart
      ∙ mark_of-claim_of (mark_at one other);
}

-- so does a call that keeps every claim
pub others_kept : (one later : Shard) (id : List ℕ) → KeepsClaims (Keeps one) (Keeps later)
    → KeepsOthers one later id
unfolding claims_of
others_kept one later id kept = record {
  same = λ other apart.
      (kept (claims_of one) (claims_of-kept one)).agrees other
      ∙ mark_of-claim_of (mark_at one other);
}

-- what follows from each of two outcomes follows
pub either_way : {A E P Q X : Type 0} (r : Result A E) → OnOk r P → OnErr r Q → (P → X) → (Q → X)
    → X
either_way (Ok a) p q first second = first p
either_way (Err e) p q first second = second q

-- after a change in the id's own shard, each shard has its own ids alone
pub OwnIds-set : (shards : List Shard) (one later : Shard) (k : ℕ) (id : List ℕ) → k ≡ shard_of id
    → one ≡ get_or shards k one → OwnIds shards → KeepsOthers one later id
    → OwnIds (set shards k later)
OwnIds-set shards one later k id own at had kept = record {
  unknown = λ j other none below apart.
      let in_old : j < length shards = subst (λ n. j < n) (length-set shards k later) below in
      elim (eqb_tells j k) [
        | inl same ↦
            let in_range : k < length shards = subst (λ n. n < length shards) same.1 in_old in
            let far : shard_of other ≢ k = λ e. apart (e ∙ sym same.1) in
            ap (λ n. mark_at (get_or (set shards k later) n none) other) same.1
            ∙ ap (λ s. mark_at s other) (get_or-set_same shards k later none in_range)
            ∙ kept.same other (elim (cases_Bool (bytes_eq other id)) [
              | inl equal ↦
                  absurd (far (ap shard_of ((bytes_eq-Decides other id).0 equal) ∙ sym own))
              | inr not_same ↦ not_same
            ])
            ∙ ap (λ s. mark_at s other) at ∙ had.unknown k other one in_range far
        | inr differs ↦ ap (λ s. mark_at s other) (get_or-set_other shards k j later none differs.1)
            ∙ had.unknown j other none in_old apart
      ];
}

-- after a change in one shard that leaves it without the ids it had nothing of, each shard has its
-- own ids alone
pub OwnIds-left : (shards : List Shard) (one later : Shard) (k : ℕ) → one ≡ get_or shards k one
    → OwnIds shards
    → ((id : List ℕ) → mark_at one id ≡ Unknown → mark_at later id ≡ Unknown)
    → OwnIds (set shards k later)
OwnIds-left shards one later k at had left = record {
  unknown = λ j id none below apart.
      let in_old : j < length shards = subst (λ n. j < n) (length-set shards k later) below in
      elim (eqb_tells j k) [
        | inl same ↦
            let in_range : k < length shards = subst (λ n. n < length shards) same.1 in_old in
            let far : shard_of id ≢ k = λ e. apart (e ∙ sym same.1) in
            ap (λ n. mark_at (get_or (set shards k later) n none) id) same.1
            ∙ ap (λ s. mark_at s id) (get_or-set_same shards k later none in_range)
            ∙ left id (ap (λ s. mark_at s id) at ∙ had.unknown k id one in_range far)
        | inr differs ↦ ap (λ s. mark_at s id) (get_or-set_other shards k j later none differs.1)
            ∙ had.unknown j id none in_old apart
      ];
}
