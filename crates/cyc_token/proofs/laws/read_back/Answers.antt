-- The text is the token's, whose parts are within their octets.
use Rattle.std.proofs.Common.{rules}
use Rattle.news_terms.specs.Token.{IsToken}
use Rattle.cyc_token.specs.Token.{token_view}
use Rattle.cyc_token.proofs.laws.read_back.Goals as goal

pub returns : goal.returns
returns c =
    let fits : IsToken (token_view c.args.token) = record {
      class = search rules;
      buffer = search rules;
      cycle = search rules;
      first = search rules;
      length = search rules;
    } in
    (c.parse.ensures.token c.args.token).1 (fits, c.to_text.ensures)
