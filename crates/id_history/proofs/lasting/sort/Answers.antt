use Rattle.std.proofs.Common.{rules}
use Rattle.id_history.proofs.LastingOrder.{Rises-from_sort}
use Rattle.id_history.proofs.lasting.sort.Goals as goal

-- neighbours are in order, and no id is there twice
pub returns-clause-rises : goal.returns-clause-rises
returns-clause-rises c =
    Rises-from_sort c.args.entries.now c.sort_unstable_by.new.self
    c.sort_unstable_by.ensures.permutation c.sort_unstable_by.ensures.sorted
    (λ a r q k. search rules)
