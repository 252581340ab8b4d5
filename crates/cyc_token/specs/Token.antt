-- Tokens as the definitions have them.
use Rattle.cyc_token.specs.declared.Token.{Token}
use Rattle.news_terms.specs.Token as terms

-- the parts of a token, each under the name that the definition gives it
abbrev pub token_view : Token → terms.Token
token_view t =
    record {
      class = t.class;
      buffer = t.buffer;
      cycle = t.cycle;
      first = t.first;
      length = t.length;
    }
