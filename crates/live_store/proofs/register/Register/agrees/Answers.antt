use Rattle.std.proofs.Common.{rules, ◌≡◌, ℕ, sym, ap₂, subst, ◌∙◌}
use Rattle.boxcar.specs.Table.{id_at}
use Rattle.live_store.specs.Places.{IsAt, bucket_of}
use Rattle.live_store.proofs.Spans.{one_place}
use Rattle.live_store.proofs.register.Register.agrees.Goals as goal

pub agrees-requires : goal.agrees-requires
agrees-requires g c =
    let a = c.a.inside in
    let b = c.b.inside in
    let same : a.index ≡ b.index = search rules in
    let at = subst (λ (i : ℕ). IsAt i a.at.value.octave a.at.value.part a.at.value.place) same
    c.a.invariant.0 in
    let one = one_place b.index a.at.value.octave a.at.value.part a.at.value.place
    b.at.value.octave b.at.value.part b.at.value.place at c.b.invariant.0 in
    let bucket : bucket_of a.at.value.octave a.at.value.part
    ≡ bucket_of b.at.value.octave b.at.value.part = ap₂ bucket_of one.0 one.1 in
    search rules

pub agrees-requires-2 : goal.agrees-requires-2
agrees-requires-2 g c =
    let a = c.a.inside in
    let b = c.b.inside in
    let same : a.index ≡ b.index = search rules in
    let at = subst (λ (i : ℕ). IsAt i a.at.value.octave a.at.value.part a.at.value.place) same
    c.a.invariant.0 in
    let one = one_place b.index a.at.value.octave a.at.value.part a.at.value.place
    b.at.value.octave b.at.value.part b.at.value.place at c.b.invariant.0 in
    c.a.invariant.1 ∙ ap₂ (λ r (j : ℕ). id_at r.items j) c.agrees.ensures one.2
    ∙ sym c.b.invariant.1
