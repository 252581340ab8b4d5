use Rattle.std.proofs.Common.{subst, sym}
use Rattle.peer_session.specs.Given.{ReadAnyIs}
use Rattle.peer_session.specs.Hearing.{ReadHeardIs}
use Rattle.peer_session.specs.Session.{session_view}
use Rattle.peer_session.specs.declared.phase.Phase.TheVariants as phases
use Rattle.peer_session.proofs.GivenReads.{any_read, any_said}
use Rattle.peer_session.proofs.HearFetches.{block_read, block_said}
use Rattle.peer_session.proofs.session.Session.hear_block.Goals as goal

pub returns-in-Some : goal.returns-in-Some
returns-in-Some c = record {
  heard = λ found finds prepared ready kept.
      block_said c.args.self.now c.args.reading found c.in-Some.octets c.hear.new.self ready kept
      (c.in-Some.ensures.heard found prepared finds);
  given = λ prepared ready kept.
      any_said c.args.self.now c.args.reading c.args.chunk c.in-Some.octets c.hear.new.self ready
      kept (c.in-Some.ensures.given prepared);
}

pub returns-in-None : goal.returns-in-None
returns-in-None c =
    let old = c.args.self.now in
    let new = record old { phase = phases.Fetches c.hear.new.self } in
    rw c.enter.ensures (record {
      heard = λ found finds prepared ready kept.
          subst (λ said. ReadHeardIs said old (session_view old) c.args.reading found new)
          (sym c.new.ensures.items)
          (block_read old c.args.reading found c.hear.new.self kept
          (c.in-None.ensures.heard found prepared finds));
      given = λ prepared ready kept.
          subst (λ said. ReadAnyIs said old (session_view old) c.args.reading c.args.chunk new)
          (sym c.new.ensures.items)
          (any_read old c.args.reading c.args.chunk c.hear.new.self kept
          (c.in-None.ensures.given prepared));
    })
