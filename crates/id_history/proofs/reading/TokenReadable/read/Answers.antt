use Rattle.std.proofs.Common.{◌∙◌, ap, sym, arith, List, ℕ, Some}
use Rattle.cyc_token.specs.Token.{token_view}
use Rattle.id_history.proofs.Tokens.{short_token, token_of}
use Rattle.id_history.proofs.reading.TokenReadable.read.Goals as goal

-- there are too few octets
pub returns-in_default : goal.returns-in_default
returns-in_default c =
    short_token c.args.bytes.now (λ i. omega (arith, c.type_inv.bytes i))
    c.in_default.ensures.cases

-- the first octets are those of the token
pub returns : goal.returns
returns c =
    token_of c.args.bytes.now (token_view c.from_octets.result)
    (c.from_octets.ensures.octets ∙ c.in-Some.ensures.cases.0) c.from_octets.ensures.parts
    ∙ ap (λ (rest : List ℕ). Some (token_view c.from_octets.result, rest))
    (sym c.in-Some.ensures.cases.1)
