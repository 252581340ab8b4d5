use Rattle.std.proofs.Common.{◌∙◌, sym}
use Rattle.cyc_buffer.proofs.Refusals.{held_on}
use Rattle.first_start.proofs.Bare.{marks_more, went_well}
use Rattle.first_start.proofs.completing.lacks_marks.Goals as goal

-- one more head block has zeros alone
pub loop-k-preserved : goal.loop-k-preserved
loop-k-preserved g c =
    let read = c.read_head.ensures in
    let before = c.loop-k.invariant in
    record {
      held = held_on g.S.BlockStore c.args.store.now c.loop-k.store c.read_head.new.self before.held
          (record {
            honest = read.honest;
            blocks = read.blocks;
            heads = read.same;
            count = read.count;
          });
      marks = λ honest.
          marks_more g.S.BlockStore c.args.store.now c.loop-k.store c.loop-k.k
          c.read_head.new.octets before.held honest
          (went_well c.read_head.result _ (sym c.is_err.ensures.value ∙ c.if-is_err.false)
          (read.octets (before.held.honest honest)))
          (c.are_zeros.ensures.0 c.if-not-are_zeros.false) (before.marks honest);
    }
