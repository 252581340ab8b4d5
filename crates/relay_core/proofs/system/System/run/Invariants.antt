use Rattle.std.proofs.Common.{◌≡◌, ◌≤◌, take, map, length}
use Rattle.std.specs.Prelude.{vec_len, vec_capacity}
use Rattle.relay_core.specs.Steps.{RunsAs}
use Rattle.relay_core.specs.Views.{event_view, output_view}
use Rattle.relay_core.proofs.system.System.run.Given as goal

-- the events that were looked at are a run, and the list has room for all outputs
abbrev pub invariant-loop-event : goal.invariant-loop-event
invariant-loop-event g l = record {
  so_far : RunsAs (map event_view (take l.event-index l.events)) l.fn.self
      (map output_view l.outputs.items) l.self;
  same : l.self.config ≡ l.fn.self.config;
  room : length l.events ≤ vec_capacity l.outputs;
  each : vec_len l.outputs ≡ l.event-index;
}
