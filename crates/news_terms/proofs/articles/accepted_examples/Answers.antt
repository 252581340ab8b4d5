-- The worked article with this body or that: its fields are what they were.
use Rattle.std.proofs.Common.{[], ◌∷◌, length, codes, refl, arith}
use Rattle.std.specs.Prelude.{IsFalse}
use Rattle.std.specs.List.{list_any}
use Rattle.news_terms.specs.Article.{Article, FieldName, Date, From, MessageId, Newsgroups, Path}
use Rattle.news_terms.specs.Article.{Subject, InjectionDate, StandsRightly, contents_of, name_of}
use Rattle.news_terms.specs.Article.{is_empty, trimmed}
use Rattle.news_terms.proofs.WorkedArticles.{worked_is_article, with_keywords_is_article}
use Rattle.news_terms.proofs.articles.accepted_examples.Goals as goal

pub returns-clause-worked : goal.returns-clause-worked
returns-clause-worked c = worked_is_article

pub returns-clause-empty_optional_field : goal.returns-clause-empty_optional_field
returns-clause-empty_optional_field c = with_keywords_is_article

pub returns-clause-no_body : goal.returns-clause-no_body
returns-clause-no_body c = record {
  laid_out = record {
    without_nul = refl;
    paired = refl;
    spelled = refl;
    each_field = worked_is_article.laid_out.each_field;
  };
  fields = worked_is_article.fields;
}

pub returns-clause-unended_body : goal.returns-clause-unended_body
returns-clause-unended_body c = record {
  laid_out = record {
    without_nul = refl;
    paired = refl;
    spelled = refl;
    each_field = worked_is_article.laid_out.each_field;
  };
  fields = worked_is_article.fields;
}

-- an article of two newsgroups, with other fields that repeat
abbrev many : Article
many = record {
  fields =
      record { name = codes "PATH"; content = codes " one.example!x" }
      ∷ record { name = codes "from"; content = codes "\r\n a@x.example" }
      ∷ record { name = codes "Newsgroups"; content = codes " misc.test, alt.test" }
      ∷ record { name = codes "Subject"; content = codes " t" }
      ∷ record { name = codes "Message-ID"; content = codes " <a@x> " }
      ∷ record { name = codes "Date"; content = codes " d" }
      ∷ record { name = codes "Injection-Date"; content = codes "\td" }
      ∷ record { name = codes "Received"; content = codes " 1" }
      ∷ record { name = codes "Received"; content = codes " 2" }
      ∷ [];
  body = 0xE4 ∷ [];
}

-- its fields stand as often as they have to
many_stand : (name : FieldName)
    → StandsRightly name (length (contents_of (name_of name) many.fields))
many_stand Date = refl
many_stand From = refl
many_stand MessageId = refl
many_stand Newsgroups = refl
many_stand Path = refl
many_stand Subject = refl
many_stand InjectionDate = omega arith

-- and none of those that are looked at is empty
many_are_filled : (name : FieldName)
    → IsFalse (list_any (λ c. is_empty (trimmed c)) (contents_of (name_of name) many.fields))
many_are_filled Date = refl
many_are_filled From = refl
many_are_filled MessageId = refl
many_are_filled Newsgroups = refl
many_are_filled Path = refl
many_are_filled Subject = refl
many_are_filled InjectionDate = refl

pub returns-clause-many_fields : goal.returns-clause-many_fields
returns-clause-many_fields c = record {
  laid_out = record {
    without_nul = refl;
    paired = refl;
    spelled = refl;
    each_field = (
      record { named = refl; set_off = refl; folded = refl },
      (
        record { named = refl; set_off = refl; folded = refl },
        (
          record { named = refl; set_off = refl; folded = refl },
          (
            record { named = refl; set_off = refl; folded = refl },
            (
              record { named = refl; set_off = refl; folded = refl },
              (
                record { named = refl; set_off = refl; folded = refl },
                (
                  record { named = refl; set_off = refl; folded = refl },
                  (
                    record { named = refl; set_off = refl; folded = refl },
                    (
                      record { named = refl; set_off = refl; folded = refl },
                      tt,
                    ),
                  ),
                ),
              ),
            ),
          ),
        ),
      ),
    );
  };
  fields = record {
    often = many_stand;
    filled = many_are_filled;
    id = worked_is_article.fields.id;
    groups = refl;
  };
}
