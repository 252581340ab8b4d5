use Rattle.relay_serve.proofs.lives.finish.Goals as goal

-- one that was stopped has a store of each buffer
pub returns-in-Ok : goal.returns-in-Ok
returns-in-Ok g c = record {
  counted = c.in-Ok.ensures.counted;
  totals = c.in-Ok.ensures.totals;
  numbers = c.in-Ok.ensures.numbers;
  stores = c.in-Ok.ensures.stores;
  told = tt;
  fault = tt;
}

-- of one that isn't the first reason is told
pub returns-in-Err : goal.returns-in-Err
returns-in-Err g c = record {
  counted = tt;
  totals = tt;
  numbers = tt;
  stores = tt;
  told = record {
    refused = c.in-Err.refused;
    rightly = c.in-Err.ensures.refused;
    told = c.unstopped-error.ensures.error;
  };
  fault = c.unstopped-error.ensures.fault;
}
