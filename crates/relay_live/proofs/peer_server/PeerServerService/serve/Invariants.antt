use Rattle.std.proofs.Common.{◌≡◌}
use Rattle.article_verdict.specs.Config.{terms_of}
use Rattle.live_jobs.specs.Seats.{IsSeatOf, count_of, end_of, handed_by}
use Rattle.relay_live.specs.Sessions.{Accounted}
use Rattle.relay_live.proofs.peer_server.PeerServerService.serve.Given as goal

-- the seat is the end's, and its accounts are right; peer and configuration stay
abbrev pub invariant-loop : goal.invariant-loop
invariant-loop g l = record {
  seat : IsSeatOf l.channels l.seat;
  end : end_of l.seat ≡ end_of l.fn.seat;
  peer : l.self.peer ≡ l.initial.self.peer;
  config : l.self.config ≡ l.initial.self.config;
  kept : Accounted g.J.StorePremises.trusted (terms_of l.self.config.now) (end_of l.seat)
      l.self.peer (count_of l.seat) (handed_by l.seat) l.self.kept.items;
}
