use Rattle.std.proofs.Common.{refl, sym, subst, ap, ◌∙◌, List, ℕ}
use Rattle.std.specs.Prelude.{flat_map}
use Rattle.news_terms.specs.Article.{IsLaidOut, field_text}
use Rattle.news_terms.specs.Overview.{overview_line}
use Rattle.news_terms.specs.Reply.{ArticleFollows, HeaderFollows, BodyFollows, OverviewFollows}
use Rattle.news_terms.specs.Reply.{Exists, reply_text}
use Rattle.nntp_text.specs.Command.{part_view}
use Rattle.nntp_text.specs.declared.command.Part.{Part}
use Rattle.article_fetch.specs.Given.{SaysSuch, ShowsAny}
use Rattle.article_fetch.specs.Malformed.{FaultsPart}
use Rattle.article_fetch.specs.Shown.{ShowsPart}
use Rattle.article_fetch.proofs.shown.part_reply.Goals as goal

pub returns-in-WholeText : goal.returns-in-WholeText
returns-in-WholeText c =
    let id = c.args.id.now in
    let given = c.args.text.now in
    let said = c.said in
    record {
      says = subst (λ (part : Part). ShowsPart (part_view part) id given said.result.items)
          (sym c.in-WholeText.is)
          (λ text a is same. (
            ArticleFollows id text,
            refl,
            said.ensures.octets ∙ ap (λ (x : List ℕ). reply_text (ArticleFollows id x)) same,
            said.ensures.some,
          ));
      some = said.ensures.some;
      fault = subst (λ (part : Part). FaultsPart (part_view part) given said.result.items)
          (sym c.in-WholeText.is) tt;
      given = subst (λ (part : Part). SaysSuch (ShowsAny (part_view part) id given)
          said.result.items) (sym c.in-WholeText.is)
          (ArticleFollows id given, refl, said.ensures.octets, said.ensures.some);
    }

pub returns-in-Header : goal.returns-in-Header
returns-in-Header c =
    let id = c.args.id.now in
    let given = c.args.text.now in
    let said = c.header_reply in
    record {
      says = subst (λ (part : Part). ShowsPart (part_view part) id given said.result.items)
          (sym c.in-Header.is)
          (λ text a is same. (
            HeaderFollows id (flat_map field_text a.fields),
            (a, is, refl),
            said.ensures.octets a (subst (λ (x : List ℕ). IsLaidOut x a) (sym same) is.laid_out),
            said.ensures.some,
          ));
      some = said.ensures.some;
      fault = subst (λ (part : Part). FaultsPart (part_view part) given said.result.items)
          (sym c.in-Header.is) said.ensures.fault;
      given = subst (λ (part : Part). SaysSuch (ShowsAny (part_view part) id given)
          said.result.items) (sym c.in-Header.is)
          said.ensures.given;
    }

pub returns-in-BodyLines : goal.returns-in-BodyLines
returns-in-BodyLines c =
    let id = c.args.id.now in
    let given = c.args.text.now in
    let said = c.body_reply in
    record {
      says = subst (λ (part : Part). ShowsPart (part_view part) id given said.result.items)
          (sym c.in-BodyLines.is)
          (λ text a is same. (
            BodyFollows id a.body,
            (a, is, refl),
            said.ensures.octets a (subst (λ (x : List ℕ). IsLaidOut x a) (sym same) is.laid_out),
            said.ensures.some,
          ));
      some = said.ensures.some;
      fault = subst (λ (part : Part). FaultsPart (part_view part) given said.result.items)
          (sym c.in-BodyLines.is) said.ensures.fault;
      given = subst (λ (part : Part). SaysSuch (ShowsAny (part_view part) id given)
          said.result.items) (sym c.in-BodyLines.is)
          said.ensures.given;
    }

pub returns-in-OverviewLine : goal.returns-in-OverviewLine
returns-in-OverviewLine c =
    let id = c.args.id.now in
    let given = c.args.text.now in
    let said = c.overview_reply in
    record {
      says = subst (λ (part : Part). ShowsPart (part_view part) id given said.result.items)
          (sym c.in-OverviewLine.is)
          (λ text a is same. (
            OverviewFollows (overview_line a),
            (a, is, refl),
            said.ensures.octets a (subst (λ (x : List ℕ). IsLaidOut x a) (sym same) is.laid_out),
            said.ensures.some,
          ));
      some = said.ensures.some;
      fault = subst (λ (part : Part). FaultsPart (part_view part) given said.result.items)
          (sym c.in-OverviewLine.is) said.ensures.fault;
      given = subst (λ (part : Part). SaysSuch (ShowsAny (part_view part) id given)
          said.result.items) (sym c.in-OverviewLine.is)
          said.ensures.given;
    }

pub returns-in-Presence : goal.returns-in-Presence
returns-in-Presence c =
    let id = c.args.id.now in
    let given = c.args.text.now in
    let said = c.said-in-Presence in
    record {
      says = subst (λ (part : Part). ShowsPart (part_view part) id given said.result.items)
          (sym c.in-Presence.is)
          (λ text a is same. (Exists id, refl, said.ensures.octets, said.ensures.some));
      some = said.ensures.some;
      fault = subst (λ (part : Part). FaultsPart (part_view part) given said.result.items)
          (sym c.in-Presence.is) tt;
      given = subst (λ (part : Part). SaysSuch (ShowsAny (part_view part) id given)
          said.result.items) (sym c.in-Presence.is)
          (Exists id, refl, said.ensures.octets, said.ensures.some);
    }
