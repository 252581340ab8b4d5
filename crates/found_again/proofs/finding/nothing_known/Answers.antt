use Rattle.std.proofs.Common.{[], map, refl, subst, sym}
use Rattle.std.specs.List.Sorted.{IsStrictlySortedBy}
use Rattle.id_history.specs.Lasting.{AreLasting}
use Rattle.id_history.specs.Views.{id_view}
use Rattle.relay_model.specs.Claims.{Unknown}
use Rattle.found_again.proofs.finding.nothing_known.Goals as goal

-- nothing is left of claims of which nothing is known
none_left : AreLasting [] (λ id. Unknown)
unfolding IsStrictlySortedBy
none_left = record { rises = tt; each = tt; whole = λ id left. absurd (left refl) }

pub returns : goal.returns
returns c =
    c.in_ok-shards.ensures (λ id. Unknown)
    (subst (λ xs. AreLasting (map id_view xs) (λ id. Unknown)) (sym c.new.ensures.items) none_left)
