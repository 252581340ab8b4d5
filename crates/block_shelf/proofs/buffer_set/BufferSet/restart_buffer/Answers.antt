use Rattle.std.proofs.Common.{refl, sym}
use Rattle.std.proofs.lemmas.Bool.{ltb-false}
use Rattle.block_shelf.proofs.Restarted.{keeps_done, keeps_refused, none_restarted, one_restarted}
use Rattle.block_shelf.proofs.Restarted.{stays_same}
use Rattle.block_shelf.proofs.Shelving.{put_there, read_there}
use Rattle.block_shelf.proofs.buffer_set.BufferSet.restart_buffer.Goals as goal

pub returns-in_default : goal.returns-in_default
returns-in_default g c = record {
  keeps = stays_same c.args.self.now;
  restarted =
      none_restarted c.args.stop c.args.place c.args.self.now
      (ltb-false _ _ (sym c.in_default.ensures.item.0));
  other = tt;
  fault = tt;
  refused = tt;
}

pub returns-in-Ok : goal.returns-in-Ok
returns-in-Ok g c = record {
  keeps =
      keeps_done c.args.self.now c.args.place
      (read_there c.args.self.now.buffers.items c.args.place c.in-Some.ensures.item)
      c.in-Ok.ensures.same c.in-Ok.ensures.blocks c.in-Ok.ensures.no_failure;
  restarted =
      one_restarted c.args.self.now c.args.place
      (read_there c.args.self.now.buffers.items c.args.place c.in-Some.ensures.item)
      c.in-Ok.ensures.same c.in-Ok.ensures.blocks c.args.stop (assumption c.in-Ok.ensures);
  other = tt;
  fault = tt;
  refused = tt;
}

pub returns-in-Err : goal.returns-in-Err
returns-in-Err g c = record {
  keeps =
      keeps_refused c.args.self.now c.args.place
      (read_there c.args.self.now.buffers.items c.args.place c.in-Some.ensures.item)
      c.in-Err.ensures.same c.in-Err.ensures.blocks c.in-Err.error c.fault_of.result
      c.in-Err.ensures.refusal
      c.in-Err.ensures.cause c.fault_of.ensures.fault;
  restarted = tt;
  other = c.fault_of.ensures.other;
  fault = c.fault_of.ensures.number;
  refused = record {
    others = λ b apart.
        put_there c.args.self.now.buffers.items c.args.place b c.restart.new.self apart;
    placed_groups = refl;
  };
}
