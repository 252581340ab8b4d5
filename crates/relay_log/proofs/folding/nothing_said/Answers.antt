use Rattle.std.proofs.Common.{[], map, refl, subst, sym}
use Rattle.std.specs.List.Sorted.{IsStrictlySortedBy}
use Rattle.id_history.specs.Lasting.{AreLasting}
use Rattle.id_history.specs.Views.{id_view}
use Rattle.relay_log.specs.Folding.{nothing}
use Rattle.relay_log.proofs.folding.nothing_said.Goals as goal

-- nothing is left of claims of which nothing is known
none_left : AreLasting [] nothing
unfolding IsStrictlySortedBy
none_left = record { rises = tt; each = tt; whole = λ id left. absurd (left refl) }

pub returns : goal.returns
returns c =
    c.in_ok-shards.ensures nothing
    (subst (λ xs. AreLasting (map id_view xs) nothing) (sym c.new.ensures.items) none_left)
