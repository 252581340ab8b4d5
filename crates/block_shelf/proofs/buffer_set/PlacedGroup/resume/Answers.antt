use Rattle.std.proofs.Common.{◌∙◌, ap, arith, length, refl, sym}
use Rattle.std.proofs.lemmas.List.{length-map}
use Rattle.std.proofs.lemmas.Option.{slice_get_within}
use Rattle.relay_conf.specs.Places.{group_view, group_over, numbered_buffers}
use Rattle.block_shelf.proofs.Resumes.{resumed}
use Rattle.block_shelf.specs.Filling.{members}
use Rattle.block_shelf.proofs.buffer_set.PlacedGroup.resume.Goals as goal

pub returns : goal.returns
returns c = λ begun at has.
    let buffers = members c.args.all.now c.args.group.now.buffers.items in
    let same = c.within-position.ensures.same
    (omega (
      arith,
      slice_get_within buffers _ has.buffer has.there,
      at,
      c.len.ensures,
      c.in_ok-numbers.field-0.blocks.ok,
      simp length-map at (ap length c.in_ok-numbers.ensures.blocks),
    )) in
    record {
      position = c.resume.ensures.places
          (group_over (numbered_buffers c.args.all.now) (group_view c.args.group.now)) begun refl
          c.in_ok-numbers.ensures.blocks
          (resumed c.args.used.now c.args.group.now.mode buffers begun has
          c.within-position.result c.used_by-used.result
          c.in_ok-numbers.field-0.numbers.items c.number_at.result (at ∙ sym same)
          c.in_ok-numbers.ensures.numbers (rw c.deref.ensures.value at c.number_at.ensures)
          c.used_by-used.ensures.turns c.used_by-used.ensures.filled);
      numbers = c.in_ok-numbers.ensures.numbers;
    }
