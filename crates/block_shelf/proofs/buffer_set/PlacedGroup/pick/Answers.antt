use Rattle.std.proofs.Common.{◌∙◌, ap, arith, length, slice_get, sym}
use Rattle.std.proofs.lemmas.Bool.{ltb-false}
use Rattle.std.proofs.lemmas.List.{length-map}
use Rattle.news_terms.specs.Places as places
use Rattle.block_shelf.proofs.Shelving.{read_there}
use Rattle.block_shelf.proofs.buffer_set.PlacedGroup.pick.Goals as goal

pub returns : goal.returns
returns c = λ group begun keeps. record {
  picked = c.pick-pick.ensures.places group begun keeps.position;
  numbered = ap (λ numbers. slice_get numbers c.pick-pick.result.buffer)
      (sym (c.deref.ensures.value ∙ keeps.numbers))
      ∙ read_there c.deref.result.now c.pick-pick.result.buffer c.in_ok-number.ensures.lookup;
}

pub returns-in_err-number : goal.returns-in_err-number
returns-in_err-number c = λ group begun keeps.
    absurd (omega (
      arith,
      ltb-false _ _ (sym c.in_err-number.ensures.lookup.0),
      c.pick-pick.ensures.within,
      ap length c.deref.ensures.value,
      ap length keeps.numbers,
      ap length keeps.position.blocks,
      length-map group.buffers (λ (b : places.Buffer). b.number),
      length-map group.buffers (λ (b : places.Buffer). b.blocks),
    ))
