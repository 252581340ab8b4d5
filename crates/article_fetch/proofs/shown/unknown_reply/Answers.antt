use Rattle.std.proofs.Common.{refl, sym, subst}
use Rattle.cyc_token.specs.Token.{token_view}
use Rattle.news_terms.specs.Reply.{NoArticle, TokenUnknown}
use Rattle.relay_model.specs.Fetches as fetches
use Rattle.article_fetch.specs.Fetch.{asked_view, Replies}
use Rattle.article_fetch.specs.declared.asked.Asked.{Asked}
use Rattle.article_fetch.proofs.shown.unknown_reply.Goals as goal

pub returns-in-OfId : goal.returns-in-OfId
returns-in-OfId c =
    let token = token_view c.args.token in
    let said = c.said in
    record {
      says = subst (λ (asked : Asked).
          Replies (asked_view asked) token fetches.NotKnown said.result.items)
          (sym c.in-OfId.is) (NoArticle, refl, said.ensures.octets, said.ensures.some);
      some = said.ensures.some;
    }

pub returns-in-OfToken : goal.returns-in-OfToken
returns-in-OfToken c =
    let token = token_view c.args.token in
    let said = c.said-in-OfToken in
    record {
      says = subst (λ (asked : Asked).
          Replies (asked_view asked) token fetches.NotKnown said.result.items)
          (sym c.in-OfToken.is) (TokenUnknown token, refl, said.ensures.octets, said.ensures.some);
      some = said.ensures.some;
    }
