use Rattle.std.proofs.Common.{◌∙◌, All, refl, subst, sym}
use Rattle.std.proofs.lemmas.List.{take_all}
use Rattle.std.proofs.lemmas.List.Elements.{All-more}
use Rattle.buffer_files.specs.Files.{WasBlank}
use Rattle.buffer_files.proofs.files.are_blank.Goals as goal

-- in this one none was found either
pub loop-store-preserved : goal.loop-store-preserved
loop-store-preserved g c =
    All-more WasBlank c.args.stores.now c.loop-store.store-index c.store-item.result
    c.loop-store-test.true c.loop-store.invariant
    (subst WasBlank c.store-item.is (sym c.was_blank.ensures ∙ c.if-not-was_blank.false))

-- that was the last
pub returns : goal.returns
returns g c =
    let all = take_all c.loop-store.store-index c.args.stores.now c.loop-store-test.false in
    (λ found. subst (All WasBlank) all c.loop-store.invariant, λ found. refl)
