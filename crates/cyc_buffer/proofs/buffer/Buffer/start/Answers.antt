-- What was read is the buffer as it was stopped, or why it isn't.
use Rattle.std.proofs.Common.{List, ℕ, ap, is_some, length, refl, sym, subst}
use Rattle.news_terms.specs.Places.{Buffer}
use Rattle.cyc_buffer.specs.Agreement.{Holds}
use Rattle.cyc_buffer.proofs.Answered.{holds_history, keeps_history, lists_live, outside_of}
use Rattle.cyc_buffer.proofs.Answered.{reason_of, same_stop, says_of, starts_of}
use Rattle.cyc_buffer.proofs.buffer.Buffer.start.Goals as goal

pub returns-in-Ok : goal.returns-in-Ok
returns-in-Ok g c =
    let store = c.args.store in
    let stopped = c.in-Ok.stopped in
    let was = c.in-Ok.ensures in
    let buffer : Buffer = record {
      number = c.args.number;
      blocks = length (g.S.BlockStore.blocks store);
      first_cycle = c.args.first_cycle;
    } in
    record {
      agrees = λ honest stop h held is. record {
        keeps = keeps_history (g.S.BlockStore.heads store) (g.S.BlockStore.blocks store) buffer
            stopped.stop stopped.buffer_state stopped.tokens.items (was.started honest) stop h held;
        honest = λ trusted. was.reads.held.honest honest;
        holds = λ trusted. subst (λ (blocks : List (List ℕ)). Holds blocks stopped.buffer_state h)
            (sym (was.reads.held.blocks honest))
            (holds_history (g.S.BlockStore.heads store) (g.S.BlockStore.blocks store) buffer
            stopped.stop stopped.buffer_state stopped.tokens.items (was.started honest) stop h
            held);
      };
      stop = λ honest stop h held. same_stop _ _ _ stopped.stop stopped.buffer_state
          stopped.tokens.items (was.started honest) stop h held;
      tokens = λ honest stop h held. lists_live _ _ _ stopped.stop stopped.buffer_state
          stopped.tokens.items (was.started honest) stop h held;
      held = λ honest stop h held is. tt;
      started = λ honest. starts_of _ _ _ stopped.stop stopped.buffer_state stopped.tokens.items
          (was.started honest);
      reason = λ honest. tt;
      said = λ honest. says_of _ _ _ stopped.stop stopped.buffer_state stopped.tokens.items
          (was.started honest);
      unopened = refl;
      idle = ap is_some was.idle;
      under = refl;
      listed = was.listed;
      within = was.within;
      same = was.reads.held;
      honest = tt;
      blocks = tt;
      heads = tt;
      count = tt;
      calls = was.calls;
      failed = tt;
      no_failure = was.reads.no_failure;
    }

pub returns-in-Err : goal.returns-in-Err
returns-in-Err g c =
    let was = c.in-Err.ensures in
    record {
      agrees = λ honest. tt;
      stop = λ honest. tt;
      tokens = λ honest. tt;
      held = λ honest stop h held is. outside_of _ _ _ stop h held is c.in-Err.error
          (was.refused honest);
      started = λ honest. tt;
      reason = λ honest. reason_of _ _ _ c.in-Err.error (was.refused honest);
      said = λ honest. tt;
      unopened = tt;
      idle = tt;
      under = tt;
      listed = tt;
      within = tt;
      same = tt;
      honest = was.reads.held.honest;
      blocks = was.reads.held.blocks;
      heads = was.reads.held.heads;
      count = was.reads.held.count;
      calls = tt;
      failed = was.reads.failed;
      no_failure = tt;
    }
