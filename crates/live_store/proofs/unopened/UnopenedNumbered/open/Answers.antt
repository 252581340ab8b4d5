use Rattle.std.proofs.Common.{refl}
use Rattle.cyc_buffer.specs.Head.{inside}
use Rattle.live_store.proofs.StartedLemmas.{tied_idle}
use Rattle.live_store.proofs.unopened.UnopenedNumbered.open.Goals as goal

pub invariant_of-result : goal.invariant_of-result
invariant_of-result g c = record {
  tied = tied_idle g.J.StorePremises.register g.J.StorePremises.trusted (inside c.args.self.buffer)
      c.in-Ok.buffer c.args.self.numbers.items c.args.self.tied c.in-Ok.ensures.same
      c.in-Ok.ensures.buffer_state c.in-Ok.ensures.count;
}

pub invariant_of-result-in-Err : goal.invariant_of-result-in-Err
invariant_of-result-in-Err g c = record {
  tied = tied_idle g.J.StorePremises.register g.J.StorePremises.trusted (inside c.args.self.buffer)
      (inside c.in-Err.buffer) c.args.self.numbers.items c.args.self.tied
      c.in-Err.ensures.refused c.in-Err.ensures.rest.buffer_state c.in-Err.ensures.rest.store.count;
}

pub returns-in-Ok : goal.returns-in-Ok
returns-in-Ok g c =
    let was = c.in-Ok.ensures in
    record {
      opened = was.opened;
      written = was.written;
      others = was.others;
      same = was.same;
      register = was.buffer_state;
      free = refl;
      numbers = refl;
      calls = was.calls;
      no_failure = was.no_failure;
      failed = tt;
      refused = tt;
      rest = tt;
      kept = tt;
      blocks = was.blocks;
      count = was.count;
    }

pub returns-in-Err : goal.returns-in-Err
returns-in-Err g c =
    let was = c.in-Err.ensures in
    record {
      opened = tt;
      written = tt;
      others = tt;
      same = tt;
      register = tt;
      free = tt;
      numbers = tt;
      calls = tt;
      no_failure = tt;
      failed = was.failed;
      refused = was.refused;
      rest = was.rest;
      kept = refl;
      blocks = tt;
      count = tt;
    }
