use Rattle.std.proofs.Common.{ap}
use Rattle.relay_conf.specs.RelayDraft.{draft_view, with_peers}
use Rattle.relay_conf.proofs.relay.RelayDraft.add_peer.Goals as goal

pub returns-clause-peers : goal.returns-clause-peers
returns-clause-peers c =
    ap (with_peers (draft_view c.args.self.now)) c.in_ok-push_peer.ensures
