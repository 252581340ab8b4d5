use Rattle.std.proofs.Common.{ap}
use Rattle.article_verdict.specs.Config.{terms_of}
use Rattle.relay_live.proofs.Sessions.{goes_on}
use Rattle.relay_live.proofs.peer_server.PeerServer.serve_next.Goals as goal

-- the accounts go on by the session that was served
pub returns-clause-kept : goal.returns-clause-kept
returns-clause-kept g c before honest trust =
    let served = c.converse-over.ensures in
    goes_on honest _ _ _ _ _ _ _ _ _ _ (ap (λ config. terms_of config.now) served.same.0)
    served.end served.same.1 (before honest trust) (served.one_more honest trust)
