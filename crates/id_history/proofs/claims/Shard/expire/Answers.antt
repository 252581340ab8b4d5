use Rattle.std.proofs.Common.{map, rules}
use Rattle.std.proofs.lemmas.Map.Made.{filter_same_pairs}
use Rattle.id_history.specs.Expiry.{is_forgotten, passed_view}
use Rattle.id_history.proofs.ExpiryLemmas.{stays, Keeps-expired, OnlyIds-kept}
use Rattle.id_history.proofs.claims.Shard.expire.Goals as goal

-- the map keeps the entries that aren't forgotten
pub returns : goal.returns
returns c =
    let fronts = map passed_view c.args.fronts.now in
    let forgotten = is_forgotten c.args.now c.args.remember fronts in
    Keeps-expired _ _ c.args.now c.args.remember fronts c.retain.ensures.was_unique
    (filter_same_pairs _ (λ e. stays forgotten e.1) _ (λ k v b w f' t. search rules) _ _
    c.retain.ensures.filtered)

-- the keys that stay are among those that were there
pub invariant_of-self : goal.invariant_of-self
invariant_of-self c =
    let forgotten = is_forgotten c.args.now c.args.remember (map passed_view c.args.fronts.now) in
    record {
      ids = OnlyIds-kept _ _ (stays forgotten) c.retain.ensures.was_unique
          (filter_same_pairs _ (λ e. stays forgotten e.1) _ (λ k v b w f' t. search rules) _ _
          c.retain.ensures.filtered) c.args.self.now.ids;
    }
