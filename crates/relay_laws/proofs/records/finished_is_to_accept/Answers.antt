use Rattle.std.proofs.Common.{◌+◌, ◌≤◌, arith}
use Rattle.relay_laws.proofs.records.finished_is_to_accept.Goals as goal

pub returns : goal.returns
returns c = λ failures job token is.
    let stored : 1 + (0 + 1) ≤ 1 = is.stored in omega (arith, stored)
