use Rattle.line_words.specs.Parts.{parts_after}
use Rattle.relay_conf.proofs.Numbered.{known_step}
use Rattle.relay_conf.proofs.cycbuff.known_numbers.Goals as goal

pub loop-unread-preserved : goal.loop-unread-preserved
loop-unread-preserved c =
    let had = rw c.cut.ensures at (rw c.in-Some.is at c.loop-unread.invariant) in
    rw (
      c.in_ok-push-in-Some-place_of.ensures.items,
      known_step c.args.buffers.now c.loop-unread.numbers.items c.cut.result.0.now
          (parts_after 44 c.cut.result.1) c.in-Some-place_of.number c.in-Some-place_of.ensures,
    ) had
