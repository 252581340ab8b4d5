use Rattle.std.proofs.Common.{sym, subst}
use Rattle.article_verdict.specs.Config.{terms_of}
use Rattle.stream_cut.specs.Stream.{BlockFound}
use Rattle.peer_session.specs.Planning.{Plans}
use Rattle.peer_session.proofs.PlanBlocks.{rests_owing}
use Rattle.peer_session.proofs.PlanCommon.{with_stream}
use Rattle.peer_session.proofs.session.Session.block_due.Goals as goal

pub returns-in-Unfinished-clause-due : goal.returns-in-Unfinished-clause-due
returns-in-Unfinished-clause-due c =
    subst (λ one. Plans (terms_of c.args.config.now) c.args.self.now c.args.now one
    (with_stream c.args.self.now c.find_block.new.self)) (sym c.rest.ensures)
    (rests_owing (terms_of c.args.config.now) c.args.self.now c.args.now c.find_block.new.self
    c.requires (subst (λ found. BlockFound c.args.self.now.cutter found c.find_block.new.self)
    c.in-Unfinished.is c.find_block.ensures.found))
