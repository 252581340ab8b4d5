use Rattle.std.proofs.Common.{◌∙◌, ap, subst, sym}
use Rattle.boxcar.specs.Table.{Shows}
use Rattle.live_store.specs.Tied.{text_in}
use Rattle.live_store.proofs.writing.write_all.Goals as goal

pub write_next-requires-clause-shown : goal.write_next-requires-clause-shown
write_next-requires-clause-shown g c =
    subst (Shows g.J.StorePremises.register) (sym c.loop-block.invariant.shown) c.requires.shown

pub write_next-requires-clause-text : goal.write_next-requires-clause-text
write_next-requires-clause-text g c =
    c.requires.text ∙ ap text_in (sym c.loop-block.invariant.shown)
