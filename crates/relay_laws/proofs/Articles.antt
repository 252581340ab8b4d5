-- The articles of the computed runs are articles.
use Rattle.std.proofs.Common.{◌≡◌, ℕ, List, [], ◌∷◌, ◌++◌, length, codes, refl, ap, arith, None}
use Rattle.std.specs.Prelude.{IsTrue, IsFalse}
use Rattle.std.specs.List.{list_any}
use Rattle.std.specs.Str.{byte}
use Rattle.news_terms.specs.Lines.{crlf}
use Rattle.news_terms.specs.Path.{updated_article}
use Rattle.news_terms.proofs.UpdatedArticles.{updated_is_article}
use Rattle.news_terms.proofs.ArticleFaults.{laid_out_line}
use Rattle.news_terms.specs.MessageId.{id_fault}
use Rattle.news_terms.proofs.IdFaults.{id_fault-none}
use Rattle.news_terms.specs.Article.{Article, FieldName, Date, From, MessageId, Newsgroups}
use Rattle.news_terms.specs.Article.{Path, Subject, InjectionDate, is_folded}
use Rattle.news_terms.specs.Article.{IsArticleText, StandsRightly, has_nul}
use Rattle.news_terms.specs.Article.{contents_of, name_of, article_text, worked_article, is_empty}
use Rattle.news_terms.specs.Article.{trimmed, is_paired, message_id}

-- the article A(i, k) is one, by the tests that its id has to pass
pub worked_by_tests : (i k : ℕ) → IsFalse (has_nul (article_text (worked_article i k)))
    → IsTrue (is_paired (article_text (worked_article i k)))
    → IsTrue (is_folded (codes " <" ++ i ∷ codes "@x>"))
    → IsFalse (is_empty (trimmed (codes " <" ++ i ∷ codes "@x>")))
    → id_fault (message_id (worked_article i k).fields) ≡ None
    → IsArticleText (article_text (worked_article i k)) (worked_article i k)
worked_by_tests i k nul paired folded filled id = record {
  laid_out = record {
    without_nul = nul;
    paired = paired;
    spelled = refl;
    each_field = (
      record { named = refl; set_off = refl; folded = refl },
      (
        record { named = refl; set_off = refl; folded = refl },
        (
          record { named = refl; set_off = refl; folded = refl },
          (
            record { named = refl; set_off = refl; folded = refl },
            (
              record { named = refl; set_off = refl; folded = folded },
              (record { named = refl; set_off = refl; folded = refl }, tt),
            ),
          ),
        ),
      ),
    );
  };
  fields = record {
    often = often;
    filled = all_filled;
    id = (id_fault-none (message_id (worked_article i k).fields)).0 id;
    groups = refl;
  };
}
  where
    often : (name : FieldName)
        → StandsRightly name (length (contents_of (name_of name) (worked_article i k).fields))
    often Date = refl
    often From = refl
    often MessageId = refl
    often Newsgroups = refl
    often Path = refl
    often Subject = refl
    often InjectionDate = omega arith

    all_filled : (name : FieldName)
        → IsFalse (list_any (λ c. is_empty (trimmed c))
        (contents_of (name_of name) (worked_article i k).fields))
    all_filled Date = refl
    all_filled From = refl
    all_filled MessageId = rw filled refl
    all_filled Newsgroups = refl
    all_filled Path = refl
    all_filled Subject = refl
    all_filled InjectionDate = refl

-- A(a, 1)
pub article_a_is : IsArticleText (article_text (worked_article (byte "a") 1))
    (worked_article (byte "a") 1)
article_a_is = worked_by_tests (byte "a") 1 refl refl refl refl refl

-- A(b, 2)
pub article_b_is : IsArticleText (article_text (worked_article (byte "b") 2))
    (worked_article (byte "b") 2)
article_b_is = worked_by_tests (byte "b") 2 refl refl refl refl refl

-- A(1, 1)
pub article_1_is : IsArticleText (article_text (worked_article (byte "1") 1))
    (worked_article (byte "1") 1)
article_1_is = worked_by_tests (byte "1") 1 refl refl refl refl refl

-- A(2, 1)
pub article_2_is : IsArticleText (article_text (worked_article (byte "2") 1))
    (worked_article (byte "2") 1)
article_2_is = worked_by_tests (byte "2") 1 refl refl refl refl refl

-- A(3, 1)
pub article_3_is : IsArticleText (article_text (worked_article (byte "3") 1))
    (worked_article (byte "3") 1)
article_3_is = worked_by_tests (byte "3") 1 refl refl refl refl refl

-- A(a, 317) and A(a, 318), which have 480 and 481 octets once their Path is updated
pub article_317_is : IsArticleText (article_text (worked_article (byte "a") 317))
    (worked_article (byte "a") 317)
article_317_is = worked_by_tests (byte "a") 317 refl refl refl refl refl

pub article_318_is : IsArticleText (article_text (worked_article (byte "a") 318))
    (worked_article (byte "a") 318)
article_318_is = worked_by_tests (byte "a") 318 refl refl refl refl refl

-- A(a, 1) with its Path updated, as it is stored
abbrev pub stored_a : Article
stored_a = updated_article (codes "relay.example") (codes "one.example") (worked_article
    (byte "a") 1)

-- it is an article too
pub stored_a_is : IsArticleText (article_text stored_a) stored_a
stored_a_is =
    updated_is_article (codes "relay.example") (codes "one.example")
    (article_text (worked_article (byte "a") 1)) (worked_article
    (byte "a") 1) refl refl article_a_is

-- two octets are not four
too_short : (before after : List ℕ) → crlf ≡ before ++ crlf ++ crlf ++ after → ⊥
too_short [] after e = omega (arith, ap (λ (text : List ℕ). length text) e)
too_short (a ∷ []) after e = omega (arith, ap (λ (text : List ℕ). length text) e)
too_short (a ∷ b ∷ []) after e = omega (arith, ap (λ (text : List ℕ). length text) e)
too_short (a ∷ b ∷ c ∷ before) after e = omega (arith, ap (λ (text : List ℕ). length text) e)

-- the empty text is no article: it has no empty line
pub empty_is_none : (a : Article) → ¬ IsArticleText [] a
empty_is_none a is =
    let line = laid_out_line [] a is.laid_out in too_short line.0 line.1 line.2
