-- A finish keeps the register's agreement with a history.
use Rattle.std.proofs.Common.{◌∙◌, ◌+◌, true, refl, ap}
use Rattle.cyc_buffer.specs.Marks.{is_marked, marked_after}
use Rattle.cyc_buffer.proofs.Finishing.{keeps_finish_of}
use Rattle.cyc_buffer.proofs.buffer_state.BufferState.finish.Goals as goal

pub returns-clause-finished : goal.returns-clause-finished
returns-clause-finished c h keeps =
    let old = c.args.self.now in
    let first = c.args.write.token.first in
    keeps_finish_of old _ h c.args.write keeps refl c.change.ensures.changed
    (λ j. c.change-2.ensures.changed j
    ∙ ap (λ n. marked_after first (first + n) true j (is_marked old.kept.words.items j))
    c.size_of.ensures)
    refl refl refl c.requires.open c.requires.written
