use Rattle.std.proofs.Common.{ℕ, sym, ap, ap₂, subst, ◌∙◌}
use Rattle.boxcar.specs.Table.{id_at}
use Rattle.live_store.proofs.Spans.{same_where}
use Rattle.live_store.specs.Places.{IsAt, bucket_of}
use Rattle.live_store.proofs.entry_number.EntryNumber.again.Goals as goal

pub invariant_of-result : goal.invariant_of-result
invariant_of-result g c =
    let a = c.self.inside in (
      subst (λ t. IsAt a.index t.octave t.part t.place) (sym c.again.ensures.1) c.self.invariant.0,
      c.again-3.ensures.0 ∙ c.self.invariant.1
          ∙ ap₂ (λ r (j : ℕ). id_at r.items j) (sym c.again-2.ensures.1)
          (ap (λ t. t.place) (sym c.again.ensures.1)),
    )

pub returns : goal.returns
returns g c =
    let a = c.self.inside in
    let octave = ap (λ t. t.octave) c.again.ensures.1 in
    let part = ap (λ t. t.part) c.again.ensures.1 in
    same_where a.index c.again-3.ensures.1 (ap₂ bucket_of octave part) c.again-2.ensures.0
    c.again-3.ensures.0
    ∙ c.self.view_is
