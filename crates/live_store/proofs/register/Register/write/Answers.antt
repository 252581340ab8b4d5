use Rattle.std.proofs.Common.{◌≡◌, ℕ, sym, ap, ap₂, subst, ◌∙◌, arith}
use Rattle.boxcar.specs.Table.{id_at, first}
use Rattle.live_store.specs.Places.{IsAt, bucket_of}
use Rattle.live_store.proofs.Spans.{bucket_few, id_is, tag_is}
use Rattle.live_store.proofs.register.Register.write.Goals as goal

pub index-requires-2 : goal.index-requires-2
index-requires-2 g c =
    let at = c.locate-at.result in
    let is = c.locate-at.ensures in
    let few = bucket_few at.octave at.part is.octaves is.parts in
    let tagged = tag_is c.self.inside.buckets.items (bucket_of at.octave at.part)
    c.index.result.now c.self.invariant few c.index.ensures in
    let count = c.value-places.ensures.1 at.octave at.part is.parts (ap first tagged) in
    omega (arith, count, is.places, c.value-places.result.now.ok)

pub invariant_of-result : goal.invariant_of-result
invariant_of-result g c =
    let at = c.locate-at.result in
    let is = c.locate-at.ensures in
    let few = bucket_few at.octave at.part is.octaves is.parts in
    let tagged = tag_is c.self.inside.buckets.items (bucket_of at.octave at.part)
    c.index.result.now c.self.invariant few c.index.ensures in
    let count = c.value-places.ensures.1 at.octave at.part is.parts (ap first tagged) in
    let inner : id_at c.value-places.result.now.items at.place ≡ c.index-2.result.now.id =
    id_is c.value-places.result.now.items at.place c.index-2.result.now
    (omega (arith, count, is.places)) c.index-2.ensures in (
      subst (λ t. IsAt c.args.index t.octave t.part t.place) (sym c.in-Ok-noted.ensures) is,
      c.in-Ok-set_written.ensures.0.0 ∙ sym inner
          ∙ ap₂ (λ r (j : ℕ). id_at r.items j) c.value-places.ensures.0
          (sym (ap (λ t. t.place) c.in-Ok-noted.ensures)),
    )
