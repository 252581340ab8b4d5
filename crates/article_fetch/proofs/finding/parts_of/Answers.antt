use Rattle.std.proofs.Common.{ap, length, refl}
use Rattle.std.specs.Prelude.{codes}
use Rattle.news_terms.specs.Article.{name_of, Subject, From, Date, MessageId}
use Rattle.article_parse.specs.Article.{article_view}
use Rattle.article_fetch.proofs.FirstContents.{body_within, content_is}
use Rattle.article_fetch.proofs.finding.parts_of.Goals as goal

pub invariant_of-result : goal.invariant_of-result
invariant_of-result c = record {
  is_within = body_within (article_view c.args.article.now) _ _ c.text.ensures c.body.ensures;
}

pub returns : goal.returns
returns c =
    let fields = (article_view c.args.article.now).fields in
    record {
      subject = content_is (name_of Subject) fields _ _ _ c.field.ensures c.unwrap_or.ensures refl;
      from = content_is (name_of From) fields _ _ _ c.field-2.ensures c.unwrap_or-2.ensures refl;
      date = content_is (name_of Date) fields _ _ _ c.field-3.ensures c.unwrap_or-3.ensures refl;
      id = content_is (name_of MessageId) fields _ _ _ c.field-4.ensures c.unwrap_or-4.ensures refl;
      references = content_is (codes "References") fields _ _ _ c.field-5.ensures
          c.unwrap_or-5.ensures refl;
      octets = ap length c.text.ensures;
      body = c.body.ensures;
    }
