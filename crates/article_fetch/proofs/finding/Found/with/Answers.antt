use Rattle.std.specs.Prelude.{codes}
use Rattle.news_terms.specs.Article.{name_of, Subject, From, Date, MessageId}
use Rattle.article_parse.specs.Header.{field_view}
use Rattle.article_fetch.proofs.FirstContents.{found_behind}
use Rattle.article_fetch.proofs.finding.Found.with.Goals as goal

pub returns : goal.returns
returns c = λ fields h.
    let f = field_view c.args.field.now in
    record {
      subject = found_behind (name_of Subject) fields f _ _ h.subject c.first.ensures;
      from = found_behind (name_of From) fields f _ _ h.from c.first-2.ensures;
      date = found_behind (name_of Date) fields f _ _ h.date c.first-3.ensures;
      id = found_behind (name_of MessageId) fields f _ _ h.id c.first-4.ensures;
      references = found_behind (codes "References") fields f _ _ h.references
          c.first-5.ensures;
    }
