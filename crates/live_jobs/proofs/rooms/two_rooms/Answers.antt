use Rattle.std.proofs.Common.{ap, length}
use Rattle.std.proofs.lemmas.Result.{IfOk-from_err}
use Rattle.live_jobs.proofs.rooms.two_rooms.Goals as goal

-- where memory is refused there is no room
pub returns-in_err-one : goal.returns-in_err-one
returns-in_err-one g c =
    let told = c.from_residual in
    record {
      none = IfOk-from_err told.result _ told.ensures.0;
      room = IfOk-from_err told.result _ told.ensures.0;
    }

pub returns-in_err-other : goal.returns-in_err-other
returns-in_err-other g c =
    let told = c.from_residual-in_err-other in
    record {
      none = IfOk-from_err told.result _ told.ensures.0;
      room = IfOk-from_err told.result _ told.ensures.0;
    }

pub returns : goal.returns
returns g c =
    let one = c.in_ok-one.ensures in
    let other = c.in_ok-other.ensures in
    record {
      none = (ap length one.items, ap length other.items);
      room = (one.capacity, other.capacity);
    }
