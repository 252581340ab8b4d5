-- A head block that is written changes nothing that the buffer agrees with.
use Rattle.std.proofs.Common.{◌∙◌, ap, refl}
use Rattle.news_terms.specs.HeadBlocks.{Open, head_image}
use Rattle.cyc_buffer.proofs.StopLemmas.{same_numbers, still_agrees}
use Rattle.cyc_buffer.proofs.buffer.Buffer.open_head.Goals as goal

pub returns-in-Err : goal.returns-in-Err
returns-in-Err g c =
    let was = c.in-Err.ensures in
    record {
      opened = tt;
      written = tt;
      others = was.others;
      refused = was.rest.opened;
      fault = was.fault;
      failed = was.failed;
      no_failure = tt;
      same = still_agrees c.args.self.now c.write_head.new.self was.rest;
      buffer_state = was.rest.buffer_state;
      stop = was.rest.stop;
      store = was.rest.store;
      count = was.rest.store.count;
      calls = was.calls;
    }

pub returns-in-Ok : goal.returns-in-Ok
returns-in-Ok g c =
    let was = c.in-Ok.ensures in
    record {
      opened = refl;
      written = λ h agrees. was.head (agrees.honest refl)
          ∙ ap head_image (same_numbers c.args.self.now.buffer_state h Open c.args.self.now.stop
          agrees.keeps);
      others = was.others;
      refused = tt;
      fault = tt;
      failed = tt;
      no_failure = was.no_failure;
      same = λ trusted h agrees.
          let left = still_agrees c.args.self.now c.write_head.new.self was.rest trusted h agrees in
          record { keeps = left.keeps; honest = left.honest; holds = left.holds };
      buffer_state = was.rest.buffer_state;
      stop = was.rest.stop;
      store = was.rest.store;
      count = was.rest.store.count;
      calls = was.calls;
    }
