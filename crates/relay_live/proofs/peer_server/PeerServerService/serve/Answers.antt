use Rattle.std.proofs.Common.{◌∙◌}
use Rattle.relay_live.proofs.peer_server.PeerServerService.serve.Goals as goal

-- the accounts go on by the connection that was served
pub loop-preserved : goal.loop-preserved
loop-preserved g c =
    let served = c.serve_next-seat.ensures in
    let before = c.loop.invariant in
    record {
      seat = served.seat;
      end = served.end ∙ before.end;
      peer = served.same.1 ∙ before.peer;
      config = served.same.0 ∙ before.config;
      kept = served.kept before.kept;
    }

pub serve_next-seat-requires-clause-seat : goal.serve_next-seat-requires-clause-seat
serve_next-seat-requires-clause-seat g c = c.loop.invariant.seat

-- the seat comes back with right accounts; its peer and its configuration stay
pub returns-in_default : goal.returns-in_default
returns-in_default g c = record {
  seat = c.loop.invariant.seat;
  end = c.loop.invariant.end;
  kept = c.loop.invariant.kept;
  mark = λ i. (c.loop.invariant.peer i, (c.loop.invariant.config i).now);
}
