use Rattle.std.proofs.Common.{refl, sym, subst, ap, ◌∙◌, List, ℕ}
use Rattle.cyc_token.specs.Token.{token_view}
use Rattle.news_terms.specs.Reply.{TokenFollows, reply_text}
use Rattle.article_fetch.specs.Fetch.{asked_view}
use Rattle.article_fetch.specs.Given.{SaysSuch, ShowsAsked}
use Rattle.article_fetch.specs.Malformed.{FaultsAsked}
use Rattle.article_fetch.specs.Shown.{ShowsArticle}
use Rattle.article_fetch.specs.declared.asked.Asked.{Asked}
use Rattle.article_fetch.proofs.shown.found_reply.Goals as goal

pub returns-in-OfToken : goal.returns-in-OfToken
returns-in-OfToken c =
    let token = token_view c.args.token in
    let said = c.said in
    record {
      says = subst (λ (asked : Asked).
          ShowsArticle (asked_view asked) token c.args.text.now said.result.items)
          (sym c.in-OfToken.is)
          (λ text a is same. (
            TokenFollows token text,
            refl,
            said.ensures.octets ∙ ap (λ (x : List ℕ). reply_text (TokenFollows token x)) same,
            said.ensures.some,
          ));
      fault = subst (λ (asked : Asked).
          FaultsAsked (asked_view asked) c.args.text.now said.result.items)
          (sym c.in-OfToken.is) tt;
      some = said.ensures.some;
      given = subst (λ (asked : Asked).
          SaysSuch (ShowsAsked (asked_view asked) token c.args.text.now) said.result.items)
          (sym c.in-OfToken.is)
          (TokenFollows token c.args.text.now, refl, said.ensures.octets, said.ensures.some);
    }

pub returns-in-OfId-clause-says : goal.returns-in-OfId-clause-says
returns-in-OfId-clause-says c =
    subst (λ (asked : Asked).
    ShowsArticle (asked_view asked) (token_view c.args.token) c.args.text.now
    c.part_reply.result.items) (sym c.in-OfId.is) c.part_reply.ensures.says
