use Rattle.std.proofs.Common.{◌∙◌, ◌++◌, ◌∷◌, [], Option, None, ap, arith, length}
use Rattle.std.proofs.lemmas.List.{length-replicate, replicate_more}
use Rattle.boxcar.specs.Table.{Where}
use Rattle.live_store.specs.declared.writing.entering.Record.{Record}
use Rattle.live_store.proofs.figures.no_numbers.Goals as goal

pub push_reserved-requires : goal.push_reserved-requires
push_reserved-requires c =
    omega (
      arith,
      c.loop.invariant.room,
      c.loop-test.true,
      ap length c.loop.invariant.none,
      length-replicate {A = Option (Where Record)} c.loop.counter None,
      c.loop.numbers.ok,
    )

pub loop-preserved : goal.loop-preserved
loop-preserved c = record {
  none = c.push_reserved.ensures.items
      ∙ ap (λ l. l ++ None ∷ []) c.loop.invariant.none
      ∙ replicate_more c.loop.counter None;
  room = omega (arith, c.loop.invariant.room, c.push_reserved.ensures.capacity);
}
