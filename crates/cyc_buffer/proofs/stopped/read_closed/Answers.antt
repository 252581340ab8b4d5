-- Numbers that can't be a buffer's are damage.
use Rattle.std.proofs.Common.{length, ap}
use Rattle.cyc_block.specs.Heads.{state_view}
use Rattle.cyc_buffer.specs.Readings.{ReadsClosed}
use Rattle.cyc_buffer.proofs.ReadingLemmas.{reads_damaged, told}
use Rattle.cyc_buffer.proofs.stopped.read_closed.Goals as goal

pub returns-else-are_sound : goal.returns-else-are_sound
returns-else-are_sound g c =
    let numbers = c.in_ok-numbers.ensures in
    record {
      closed = tt;
      sound = tt;
      numbers = record {
        says = λ honest. tt;
        refused = λ honest. record {
          numbers = _;
          says = numbers.says honest;
          closed = ap state_view c.in-Closed.is;
          damaged = c.are_sound.ensures.damaged c.if-are_sound.false _ _;
        };
        blocks = tt;
        calls = tt;
        reads = reads_damaged g.S.BlockStore c.args.store.now c.read_numbers.new.store
            numbers.reads.held numbers.reads.no_failure;
      };
    }

pub returns-in-Open : goal.returns-in-Open
returns-in-Open g c =
    let numbers = c.in_ok-numbers.ensures in
    record {
      closed = tt;
      sound = tt;
      numbers = record {
        says = λ honest. tt;
        refused = λ honest. record {
          numbers = _;
          says = numbers.says honest;
          opened = ap state_view c.in-Open.is;
        };
        blocks = tt;
        calls = tt;
        reads = record {
          held = numbers.reads.held;
          failed = numbers.reads.no_failure;
          no_failure = tt;
        };
      };
    }

pub returns-in_err-numbers : goal.returns-in_err-numbers
returns-in_err-numbers g c =
    told c.from_residual.result c.in_err-numbers.field-0.0 c.from_residual.ensures
    (λ r. ReadsClosed g.S.BlockStore c.args.store.now c.read_numbers.new.store (record {
      number = c.args.number;
      blocks = length (g.S.BlockStore.blocks c.args.store.now);
      first_cycle = c.args.first_cycle;
    }) r)
    (record { closed = tt; sound = tt; numbers = c.in_err-numbers.ensures })

pub returns-then-are_sound : goal.returns-then-are_sound
returns-then-are_sound g c = record {
  closed = ap state_view c.in-Closed.is;
  sound = c.are_sound.ensures.sound c.if-are_sound.true;
  numbers = c.in_ok-numbers.ensures;
}
