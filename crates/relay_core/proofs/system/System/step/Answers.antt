use Rattle.std.proofs.Common.{true, false}
use Rattle.relay_core.proofs.Dispatch.{had_as}
use Rattle.relay_core.proofs.system.System.step.Goals as goal

pub returns-in-Open : goal.returns-in-Open
returns-in-Open g c =
    let had = had_as c.args.self.now c.args.event.now _ c.open.result c.open.new.self
    c.in-Open.is (c.open.ensures.steps, c.open.ensures.refused) in
    record {
      steps = had.0 false;
      leaves = had.0 true;
      refused = had.1;
      frame = c.open.ensures.frame;
    }

pub returns-in-Bytes : goal.returns-in-Bytes
returns-in-Bytes g c =
    let had = had_as c.args.self.now c.args.event.now _ c.bytes.result c.bytes.new.self
    c.in-Bytes.is (c.bytes.ensures.steps, c.bytes.ensures.refused) in
    record {
      steps = had.0 false;
      leaves = had.0 true;
      refused = had.1;
      frame = c.bytes.ensures.frame;
    }

pub returns-in-Turn : goal.returns-in-Turn
returns-in-Turn g c =
    let had = had_as c.args.self.now c.args.event.now _ c.turn.result c.turn.new.self
    c.in-Turn.is (c.turn.ensures.steps, c.turn.ensures.refused) in
    record {
      steps = had.0 false;
      leaves = had.0 true;
      refused = had.1;
      frame = c.turn.ensures.frame;
    }

pub returns-in-Write : goal.returns-in-Write
returns-in-Write g c =
    let had = had_as c.args.self.now c.args.event.now _ c.write.result c.write.new.self
    c.in-Write.is (c.write.ensures.steps, c.write.ensures.refused) in
    record {
      steps = had.0 false;
      leaves = had.0 true;
      refused = had.1;
      frame = c.write.ensures.frame;
    }

pub returns-in-Break : goal.returns-in-Break
returns-in-Break g c =
    let had = had_as c.args.self.now c.args.event.now _ c.break_off.result c.break_off.new.self
    c.in-Break.is (c.break_off.ensures.steps, c.break_off.ensures.refused) in
    record {
      steps = had.0 false;
      leaves = had.0 true;
      refused = had.1;
      frame = c.break_off.ensures.frame;
    }

pub returns-in-Expire : goal.returns-in-Expire
returns-in-Expire g c =
    let had = had_as c.args.self.now c.args.event.now _ c.expire.result c.expire.new.self
    c.in-Expire.is (c.expire.ensures.steps, c.expire.ensures.refused) in
    record {
      steps = had.0 false;
      leaves = had.0 true;
      refused = had.1;
      frame = c.expire.ensures.frame;
    }

pub returns-in-Restart : goal.returns-in-Restart
returns-in-Restart g c =
    let had = had_as c.args.self.now c.args.event.now _ c.restart.result c.restart.new.self
    c.in-Restart.is (c.restart.ensures.steps, c.restart.ensures.refused) in
    record {
      steps = had.0 false;
      leaves = had.0 true;
      refused = had.1;
      frame = c.restart.ensures.frame;
    }
