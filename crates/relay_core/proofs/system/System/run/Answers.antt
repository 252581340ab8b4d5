use Rattle.std.proofs.Common.{List, [], true, false, map, sym, refl, subst, arith, ◌∙◌}
use Rattle.relay_core.proofs.RunLemmas.{either, ran_all, ran_more, ran_none}
use Rattle.relay_core.specs.Steps.{RunsAs}
use Rattle.relay_core.specs.Views.{event_view, output_view}
use Rattle.relay_core.specs.declared.event.Output.{Output}
use Rattle.relay_core.proofs.system.System.run.Goals as goal

pub loop-event-init : goal.loop-event-init
loop-event-init g c = record {
  so_far = subst (λ (outputs : List Output). RunsAs [] c.args.self.now
      (map output_view outputs) c.args.self.now) (sym c.in-Ok.ensures.items)
      (ran_none c.args.self.now);
  same = refl;
  room = c.in-Ok.ensures.capacity;
  each = c.in-Ok.ensures.len;
}

pub loop-event-preserved : goal.loop-event-preserved
loop-event-preserved g c = record {
  so_far = ran_more c.args.self.now c.loop-event.self c.step-output.new.self c.args.events.now
      c.loop-event.outputs.items c.push_reserved.new.self.items c.loop-event.event-index
      c.event-item.result c.step-output.result c.loop-event-test.true c.event-item.is
      c.push_reserved.ensures.items c.loop-event.invariant.same c.loop-event.invariant.so_far
      (either (event_view c.event-item.result) c.loop-event.self c.step-output.result
      c.step-output.new.self c.step-output.ensures.steps c.step-output.ensures.leaves);
  same = c.step-output.ensures.frame.config ∙ c.loop-event.invariant.same;
  room = omega (arith, c.loop-event.invariant.room, c.push_reserved.ensures.capacity);
  each = omega (arith, c.loop-event.invariant.each, c.push_reserved.ensures.len);
}

-- all events were looked at
pub returns-clause-run : goal.returns-clause-run
returns-clause-run g c =
    ran_all c.args.self.now c.loop-event.self c.args.events.now
    (map output_view c.loop-event.outputs.items) c.loop-event.event-index
    c.loop-event-test.false c.loop-event.invariant.so_far false

-- so it is over stores that a crash may leave
pub returns-clause-leaves : goal.returns-clause-leaves
returns-clause-leaves g c =
    ran_all c.args.self.now c.loop-event.self c.args.events.now
    (map output_view c.loop-event.outputs.items) c.loop-event.event-index
    c.loop-event-test.false c.loop-event.invariant.so_far true
