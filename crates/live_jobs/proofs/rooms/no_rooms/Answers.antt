use Rattle.std.proofs.Common.{ap, length}
use Rattle.std.proofs.lemmas.Result.{IfOk-from_err}
use Rattle.live_jobs.proofs.Rows.{past_same}
use Rattle.live_jobs.proofs.rooms.no_rooms.Goals as goal

-- where memory is refused there is no room
pub returns-in_err-running : goal.returns-in_err-running
returns-in_err-running g c =
    let told = c.from_residual in
    record {
      none = IfOk-from_err told.result _ told.ensures.0;
      room = IfOk-from_err told.result _ told.ensures.0;
    }

pub returns-in_err-lefts : goal.returns-in_err-lefts
returns-in_err-lefts g c =
    let told = c.from_residual-in_err-lefts in
    record {
      none = IfOk-from_err told.result _ told.ensures.0;
      room = IfOk-from_err told.result _ told.ensures.0;
    }

pub returns-in_err-serving : goal.returns-in_err-serving
returns-in_err-serving g c =
    let told = c.from_residual-in_err-serving in
    record {
      none = IfOk-from_err told.result _ told.ensures.0;
      room = IfOk-from_err told.result _ told.ensures.0;
    }

pub returns : goal.returns
returns g c =
    let writers = c.in_ok-running.ensures in
    let ends = c.in_ok-lefts.ensures in
    let serving = c.in_ok-serving.ensures in
    record {
      none = (
        writers.none.0,
        ap length serving.items,
        ends.none.0,
        ends.none.1,
        writers.none.1,
      );
      room = (
        past_same _ _ _ writers.room.0 c.len.ensures,
        past_same _ _ _ serving.capacity c.len-3.ensures,
        past_same _ _ _ ends.room.0 c.len-2.ensures,
        past_same _ _ _ ends.room.1 c.len-2.ensures,
        past_same _ _ _ writers.room.1 c.len.ensures,
      );
    }
