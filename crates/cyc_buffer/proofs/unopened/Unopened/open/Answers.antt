-- Once its head is open it is the buffer itself.
use Rattle.std.proofs.Common.{◌∙◌, sym}
use Rattle.cyc_buffer.proofs.Writes.{with_error, without_error}
use Rattle.cyc_buffer.proofs.unopened.Unopened.open.Goals as goal

pub returns-then-is_err : goal.returns-then-is_err
returns-then-is_err g c =
    let was = c.open_head.ensures in
    let error = sym c.is_err.ensures.value ∙ c.if-is_err.true in
    record {
      opened = tt;
      written = tt;
      others = tt;
      same = tt;
      buffer_state = tt;
      calls = tt;
      no_failure = tt;
      failed = with_error c.open_head.result error was.failed;
      refused = was.same;
      rest = record {
        buffer_state = was.buffer_state;
        opened = with_error c.open_head.result error was.refused;
        stop = was.stop;
        store = was.store;
      };
      blocks = tt;
      count = tt;
    }

pub returns : goal.returns
returns g c =
    let was = c.open_head.ensures in
    let fine = sym c.is_err.ensures.value ∙ c.if-is_err.false in
    record {
      opened = without_error c.open_head.result fine was.opened;
      written = without_error c.open_head.result fine was.written;
      others = was.others;
      same = was.same;
      buffer_state = was.buffer_state;
      calls = was.calls;
      no_failure = without_error c.open_head.result fine was.no_failure;
      failed = tt;
      refused = tt;
      rest = tt;
      blocks = was.store;
      count = was.count;
    }
