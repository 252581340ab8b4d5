use Rattle.std.proofs.Common.{◌∙◌, All, arith, subst, sym}
use Rattle.std.proofs.lemmas.List.{take_all}
use Rattle.cyc_buffer.proofs.Refusals.{held_on}
use Rattle.first_start.specs.Completing.{IsZero}
use Rattle.first_start.proofs.Bare.{went_well, zeros_more}
use Rattle.first_start.proofs.completing.lacks_blocks.Goals as goal

-- one more block has zeros alone
pub loop-k-preserved : goal.loop-k-preserved
loop-k-preserved g c =
    let read = c.read.ensures in
    let before = c.loop-k.invariant in
    record {
      held = held_on g.S.BlockStore c.args.store.now c.loop-k.store c.read.new.self before.held
          (record {
            honest = read.honest;
            blocks = read.same;
            heads = read.heads;
            count = read.count;
          });
      zeros = λ honest.
          zeros_more g.S.BlockStore c.args.store.now c.loop-k.store c.loop-k.k c.read.new.octets
          before.held honest
          (omega (arith, c.loop-k-test.true, c.count-k-end.ensures.blocks))
          (went_well c.read.result _ (sym c.is_err.ensures.value ∙ c.if-is_err.false)
          (read.octets (before.held.honest honest)))
          (c.are_zeros.ensures.0 c.if-not-are_zeros.false) (before.zeros honest);
    }

-- that was the last
pub returns-clause-zeros : goal.returns-clause-zeros
returns-clause-zeros g c = λ honest all.
    let blocks = g.S.BlockStore.blocks c.args.store.now in
    subst (All IsZero) (take_all c.loop-k.k blocks
    (omega (arith, c.loop-k-test.false, c.count-k-end.ensures.blocks)))
    (c.loop-k.invariant.zeros honest)
