-- A buffer without a rejected article agrees with the history without it.
use Rattle.cyc_token.specs.Token.{token_view}
use Rattle.cyc_buffer.proofs.Rejected.{holds_without}
use Rattle.cyc_buffer.proofs.unopened.Unopened.reject.Goals as goal

pub returns-clause-rejected : goal.returns-clause-rejected
returns-clause-rejected g c trusted h agrees live = record {
  keeps = c.reject.ensures.rejected h agrees.keeps live;
  honest = agrees.honest;
  holds = λ is. holds_without _ c.args.self.now.buffer.buffer_state c.reject.new.self h
      (token_view c.args.token.now) c.reject.ensures.line c.reject.ensures.progress
      (agrees.holds is);
}
