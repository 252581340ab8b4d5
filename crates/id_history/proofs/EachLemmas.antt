-- What sixteen shards keep together each keeps of its own ids.
use Rattle.std.proofs.Common.{◌∙◌, ap, sym, inl, inr, cond, List, ℕ}
use Rattle.std.proofs.Math.ListN.{get_or}
use Rattle.std.proofs.lemmas.Bool.Decides.{eqb_tells}
use Rattle.relay_model.specs.Claims.{Claim, Unknown}
use Rattle.relay_model.specs.Run.{shard_of}
use Rattle.id_history.specs.declared.shards.Shards.{Shards}
use Rattle.id_history.specs.Mark.{mark_of}
use Rattle.id_history.specs.Shard.{mark_at}
use Rattle.id_history.specs.Shards.{KeepsAll, EachKeeps}

-- of another shard's id nothing is known
pub EachKeeps-from_all : (shards : Shards) (claims : List ℕ → Claim) → KeepsAll shards claims
    → EachKeeps shards.shards.items claims
EachKeeps-from_all shards claims keeps = record {
  each = λ k none there. record {
    agrees = λ id. elim (eqb_tells (shard_of id) k) [
      | inl same ↦ ap (λ n. mark_at (get_or shards.shards.items n none) id) (sym same.1)
          ∙ keeps.agrees id none
          ∙ ap (λ b. mark_of (cond b (claims id) Unknown)) (sym same.0)
      | inr other ↦ shards.own.unknown k id none there other.1
          ∙ ap (λ b. mark_of (cond b (claims id) Unknown)) (sym other.0)
    ];
  };
}
