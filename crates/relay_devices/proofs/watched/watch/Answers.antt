use Rattle.std.proofs.Common.{inl, inr}
use Rattle.std.proofs.Math.Logic.{∥∥₁_map}
use Rattle.relay_devices.specs.Watched.{store_in}
use Rattle.buffer_files.proofs.Founds.{all_there}
use Rattle.relay_devices.proofs.watched.watch.Goals as goal

-- what was found in the stores was found in those that are watched
pub invariant_of-result : goal.invariant_of-result
invariant_of-result g c = record {
  formatted = λ formats. ∥∥₁_map (c.args.beginning.formatted formats) (λ why.
      elim why [
        | inl asked ↦ inl asked
        | inr none ↦ inr (all_there g.S.Looked.was_blank store_in c.in_ok-stores.stores.items
            c.args.beginning.stores.items c.in_ok-stores.ensures.stores none)
      ]);
  emptied = λ formats. ∥∥₁_map (c.args.beginning.emptied formats) (λ all.
      all_there g.S.Looked.was_emptied store_in c.in_ok-stores.stores.items
      c.args.beginning.stores.items c.in_ok-stores.ensures.stores all);
}
