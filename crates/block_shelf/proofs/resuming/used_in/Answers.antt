use Rattle.std.proofs.Common.{◌∙◌, arith}
use Rattle.block_shelf.proofs.Resumes.{used_is}
use Rattle.block_shelf.proofs.resuming.used_in.Goals as goal

pub returns : goal.returns
returns g c = λ trusted h agrees.
    let told = used_is trusted c.args.buffer.now h agrees c.from.result c.from-blocks.result
    c.front.result (c.from.ensures ∙ c.cycle.ensures trusted h agrees)
    (c.from-blocks.ensures ∙ c.blocks-2.ensures.history trusted h agrees)
    (c.front.ensures trusted h agrees) in
    omega (arith, told.0, told.1, c.min.ensures, c.saturating_sub.ensures)
