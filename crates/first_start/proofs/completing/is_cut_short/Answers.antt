use Rattle.first_start.proofs.Bare.{cut_by, held_each}
use Rattle.first_start.proofs.completing.is_cut_short.Goals as goal

-- heads are missing, and no block has more than zeros
pub returns-clause-cut : goal.returns-clause-cut
returns-clause-cut g c = λ lacks.
    cut_by g.S.BlockStore c.args.stores.now c.lack_heads.new.stores c.lack_heads.ensures.held
    (c.lack_heads.ensures.heads c.if-not-lack_heads.false)
    (c.lack_heads.ensures.missing c.if-not-lack_heads.false) (c.lack_blocks.ensures.zeros lacks)
    (c.lack_blocks.ensures.marks lacks)

pub returns-clause-held : goal.returns-clause-held
returns-clause-held g c =
    held_each g.S.BlockStore c.args.stores.now c.lack_heads.new.stores c.lack_blocks.new.stores
    c.lack_heads.ensures.held c.lack_blocks.ensures.held
