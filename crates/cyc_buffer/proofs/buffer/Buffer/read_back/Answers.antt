-- What is read back is what the buffer keeps.
use Rattle.std.proofs.Common.{◌∙◌, ℕ, ap, refl}
use Rattle.news_terms.specs.Places.{Buffer}
use Rattle.cyc_block.specs.declared.store.BlockStore.{Ghosts}
use Rattle.cyc_buffer.specs.Head.{LeavesBlocks}
use Rattle.cyc_buffer.specs.Reads.{StaysHeld}
use Rattle.cyc_buffer.proofs.Answered.{keeps_history, lists_live, outside_of}
use Rattle.cyc_buffer.proofs.buffer.Buffer.read_back.Goals as goal

-- a buffer of so many blocks
abbrev with_blocks : (number first_cycle blocks : ℕ) → Buffer
with_blocks number first_cycle blocks =
    record { number = number; blocks = blocks; first_cycle = first_cycle }

-- what all that is held leaves, the blocks are left by, too
leaves : {S : Type 0} (g : Ghosts S) (old new : S) → StaysHeld g old new → LeavesBlocks g old new
leaves g old new held =
    record { honest = held.honest; blocks = held.blocks; count = held.count }

pub returns-in-Err : goal.returns-in-Err
returns-in-Err g c =
    let line = c.args.self.now.buffer_state.line in
    let was = c.in-Err.ensures in
    record {
      tokens = λ honest. tt;
      cause = λ honest stop h held keeps. outside_of _ _ _ stop h held
          (keeps.buffer ∙ ap (with_blocks line.number line.first_cycle) c.args.self.now.counted)
          c.in-Err.error (was.refused honest);
      rest = record {
        buffer_state = refl;
        opened = refl;
        stop = refl;
        store = leaves g.S.BlockStore c.args.self.now.store c.read_stopped.new.store
            was.reads.held;
      };
      calls = tt;
      failed = was.reads.failed;
      no_failure = tt;
    }

pub returns-then-not-is_same : goal.returns-then-not-is_same
returns-then-not-is_same g c =
    let stopped = c.in-Ok.stopped in
    let was = c.in-Ok.ensures in
    record {
      tokens = λ honest. tt;
      cause = λ honest stop h held keeps. c.is_same.ensures.other c.if-not-is_same.true h keeps
          (keeps_history _ _ _ stopped.stop stopped.buffer_state stopped.tokens.items
          (was.started honest) stop h held);
      rest = record {
        buffer_state = refl;
        opened = refl;
        stop = refl;
        store = leaves g.S.BlockStore c.args.self.now.store c.read_stopped.new.store
            was.reads.held;
      };
      calls = tt;
      failed = was.reads.no_failure;
      no_failure = tt;
    }

pub returns : goal.returns
returns g c =
    let stopped = c.in-Ok.stopped in
    let was = c.in-Ok.ensures in
    record {
      tokens = λ honest stop h held. lists_live _ _ _ stopped.stop stopped.buffer_state
          stopped.tokens.items (was.started honest) stop h held;
      cause = λ honest stop h held keeps. tt;
      rest = record {
        buffer_state = refl;
        opened = refl;
        stop = refl;
        store = leaves g.S.BlockStore c.args.self.now.store c.read_stopped.new.store
            was.reads.held;
      };
      calls = was.calls;
      failed = tt;
      no_failure = was.reads.no_failure;
    }
