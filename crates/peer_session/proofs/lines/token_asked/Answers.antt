use Rattle.std.proofs.Common.{◌∙◌, ap, refl, sym}
use Rattle.article_fetch.specs.Fetch.{prepared_fetch}
use Rattle.cyc_token.specs.Token.{token_view}
use Rattle.cyc_token.specs.declared.Token.{Token}
use Rattle.news_terms.specs.Token as terms
use Rattle.relay_model.specs.Asks as asks
use Rattle.peer_session.specs.Asking as asking
use Rattle.peer_session.proofs.PlanCommon.{if_ok}
use Rattle.peer_session.proofs.lines.token_asked.Goals as goal

-- a token of the definitions as the code has it
abbrev code_token : terms.Token → Token
code_token token =
    record {
      class = token.class;
      buffer = token.buffer;
      cycle = token.cycle;
      first = token.first;
      length = token.length;
    }

pub returns-in-Ok-prepare : goal.returns-in-Ok-prepare
returns-in-Ok-prepare c =
    let parsed = (c.parse.ensures.token c.in-Ok.token).0 c.in-Ok.is in
    asking.IsToken c.in-Ok.token c.prepare.new.self
    (asks.IsRead (token_view c.in-Ok.token) parsed.0 (sym parsed.1) refl)
    (c.in-Ok-prepare.ensures.ok ∙ ap prepared_fetch c.new-reading.ensures) refl

pub returns-in-Err : goal.returns-in-Err
returns-in-Err c =
    if_ok _ _ c.said.result (λ one says. asking.IsNone
    (asks.IsNone (λ token is same.
    let parsed = (c.parse.ensures.token (code_token token)).1 (is, sym same) in
    absurd (cc (sym parsed ∙ c.in-Err.is))) refl) says) c.said.ensures
