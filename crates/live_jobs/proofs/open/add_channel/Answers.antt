use Rattle.std.proofs.Common.{◌∙◌, [], false, ap}
use Rattle.job_queue.specs.declared.known.Known.{Known}
use Rattle.job_queue.specs.Delivery.{knows, taker_of}
use Rattle.live_jobs.proofs.open.add_channel.Goals as goal

pub give_passes-requires-clause-first : goal.give_passes-requires-clause-first
give_passes-requires-clause-first g c =
    let made = c.in_ok-channel.ensures in
    let first = c.writer_pass-writer.ensures in (
      first.passes.0,
      first.first ∙ ap (λ (v : Known). knows v.low v.high v.handed false []) made.knows,
    )

pub returns-in-Ok : goal.returns-in-Ok
returns-in-Ok g c =
    let gives = c.in-Ok.ensures in
    let writer = c.writer_pass-writer.ensures in
    record {
      writer = (writer.passes.1, writer.writer ∙ ap taker_of c.in_ok-channel.ensures.knows);
      rest = gives.rest;
      ends = gives.ends;
      services = gives.services;
      fit = gives.fit;
    }

-- where memory is refused there is no channel
pub returns-in-Err : goal.returns-in-Err
returns-in-Err g c = record { writer = tt; rest = tt; ends = tt; services = tt; fit = tt }
