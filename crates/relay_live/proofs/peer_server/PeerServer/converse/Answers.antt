use Rattle.std.proofs.Common.{ap}
use Rattle.live_session.specs.Going.{hands_at}
use Rattle.relay_live.proofs.Sessions.{one_more, served_over}
use Rattle.relay_live.proofs.peer_server.PeerServer.converse.Goals as goal

-- what was served is one session more, of the number that was spent
pub returns-clause-one_more : goal.returns-clause-one_more
returns-clause-one_more g c honest trust =
    let served = c.serve_session-served.ensures in
    one_more honest _ _ _ _ _ _ _ _ _ _ _ _ _ _ c.into_value-number.ensures
    (ap (λ v. hands_at c.args.seat v.items) c.replace-kept.ensures.value)
    c.requires.new.0 c.requires.new.1
    (served_over honest g.J.StorePremises.trusted _ _ _ _ _ _ _ _ _ _ _ _ trust served.served
    served.formed)
