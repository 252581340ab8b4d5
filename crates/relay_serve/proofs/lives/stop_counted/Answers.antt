use Rattle.std.proofs.Common.{refl}
use Rattle.relay_serve.proofs.lives.stop_counted.Goals as goal

-- one that was stopped has a store of each buffer
pub returns-in-Ok : goal.returns-in-Ok
returns-in-Ok g c = record {
  counted = refl;
  totals = c.totals_of-totals.ensures.totals;
  numbers = c.totals_of-totals.ensures.counted;
  stores = c.in-Ok.ensures.stores;
  refused = tt;
}

-- of one that isn't the first reason is told
pub returns-in-Err : goal.returns-in-Err
returns-in-Err g c = record {
  counted = tt;
  totals = tt;
  numbers = tt;
  stores = tt;
  refused = c.in-Err.ensures.refused;
}
