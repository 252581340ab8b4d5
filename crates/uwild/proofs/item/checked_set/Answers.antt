use Rattle.std.proofs.Common.{length, sym, ap, ◌∙◌}
use Rattle.std.specs.Prelude.{◌==◌}
use Rattle.std.proofs.lemmas.Bool.{both_ways}
use Rattle.uwild.proofs.Ranges.{faultless_set}
use Rattle.uwild.proofs.item.checked_set.Goals as goal

pub returns-in_ok-from_slice-in-None : goal.returns-in_ok-from_slice-in-None
returns-in_ok-from_slice-in-None c = (
  c.in_ok-from_slice-in-None.ensures.items,
  faultless_set c.args.set.now (λ e. both_ways _ (sym c.is_empty.ensures ∙ c.if-is_empty.false)
      (ap (λ x. length x == 0) e)) c.requires (sym c.in-None.ensures),
)
