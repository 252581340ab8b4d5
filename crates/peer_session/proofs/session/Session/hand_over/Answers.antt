use Rattle.peer_session.proofs.HearWaiting.{hands_over}
use Rattle.peer_session.proofs.session.Session.hand_over.Goals as goal

pub returns : goal.returns
returns c = hands_over c.args.self.now c.take.result c.take.new.self c.take.ensures.value
    c.take.ensures.after
