-- The worked article is one, and what is shown of the faults of texts made from it.
use Rattle.std.proofs.Common.{◌≡◌, ℕ, ◌≤◌, List, [], ◌∷◌, ◌++◌, length, codes, refl, ap, subst}
use Rattle.std.proofs.Common.{arith}
use Rattle.std.specs.Prelude.{IsFalse}
use Rattle.std.specs.List.{AllByRecursion, list_any}
use Rattle.std.specs.Str.{byte}
use Rattle.std.specs.Prelude.{nat_le, IsTrue, ◌≢◌}
use Rattle.std.specs.Char.{is_ascii_graphic}
use Rattle.std.proofs.lemmas.Bool.{both_ways, and_parts, leb-true}
use Rattle.std.proofs.lemmas.List.Elements.{All-from_recursion}
use Rattle.news_terms.specs.MessageId.{IsMessageId}
use Rattle.news_terms.specs.Article.{Article, FieldName, Date, From, MessageId, Newsgroups, Path}
use Rattle.news_terms.specs.Article.{Subject, InjectionDate, Fault, Nul, BareCrLf, NoBlankLine}
use Rattle.news_terms.specs.Article.{BadHeader, Missing, Twice, EmptyField, IsLaidOut}
use Rattle.news_terms.specs.Article.{AreArticleFields, IsArticleText, HasFault, StandsRightly}
use Rattle.news_terms.specs.Article.{contents_of, name_of, article_text, worked_article, is_empty}
use Rattle.news_terms.specs.Article.{trimmed}
use Rattle.news_terms.proofs.ArticleFaults.{laid_out_line, laid_out_header, of_these_fields}

-- the message-id of A(a, k)
worked_id : IsMessageId (codes "<a@x>")
worked_id =
    let printable : (c : ℕ) → IsTrue (is_ascii_graphic c) → (0x21 ≤ c) × (c ≤ 0x7E) =
    λ c h. let p = and_parts (nat_le 33 c) (nat_le c 126) h in
    (leb-true 33 c p.0, leb-true c 126 p.1) in
    record {
      least = omega arith;
      most = omega arith;
      opens = refl;
      closes = refl;
      closes_once =
          All-from_recursion (λ c. c ≢ byte ">") (codes "<a@x") (
            (λ e. omega (arith, e)),
            (
              (λ e. omega (arith, e)),
              (
                (λ e. omega (arith, e)),
                (
                  (λ e. omega (arith, e)),
                  tt,
                ),
              ),
            ),
          );
      graphic =
          All-from_recursion (λ c. (0x21 ≤ c) × (c ≤ 0x7E)) (codes "<a@x>") (
            printable _ refl,
            (
              printable _ refl,
              (
                printable _ refl,
                (
                  printable _ refl,
                  (
                    printable _ refl,
                    tt,
                  ),
                ),
              ),
            ),
          );
    }

-- A(a, 1), and the same with an empty field before the others
abbrev pub worked : Article
worked = worked_article (byte "a") 1

abbrev pub with_keywords : Article
with_keywords = record worked {
  fields =
      record { name = codes "Keywords"; content = [] } ∷ worked.fields;
}

-- A(a, 1) is laid out as it says
pub worked_laid_out : IsLaidOut (article_text worked) worked
worked_laid_out = record {
  without_nul = refl;
  paired = refl;
  spelled = refl;
  each_field = (
    record { named = refl; set_off = refl; folded = refl },
    (
      record { named = refl; set_off = refl; folded = refl },
      (
        record { named = refl; set_off = refl; folded = refl },
        (
          record { named = refl; set_off = refl; folded = refl },
          (
            record { named = refl; set_off = refl; folded = refl },
            (
              record { named = refl; set_off = refl; folded = refl },
              tt,
            ),
          ),
        ),
      ),
    ),
  );
}

-- its fields are those of an article
worked_fields : AreArticleFields worked.fields
worked_fields = record { often = often; filled = filled; id = worked_id; groups = refl }
  where
    often : (name : FieldName)
        → StandsRightly name (length (contents_of (name_of name) worked.fields))
    often Date = refl
    often From = refl
    often MessageId = refl
    often Newsgroups = refl
    often Path = refl
    often Subject = refl
    often InjectionDate = omega arith

    filled : (name : FieldName)
        → IsFalse (list_any (λ c. is_empty (trimmed c)) (contents_of (name_of name) worked.fields))
    filled Date = refl
    filled From = refl
    filled MessageId = refl
    filled Newsgroups = refl
    filled Path = refl
    filled Subject = refl
    filled InjectionDate = refl

-- the empty field is none of those that are looked at
same_contents : (name : FieldName)
    → contents_of (name_of name) worked.fields ≡ contents_of (name_of name) with_keywords.fields
same_contents Date = refl
same_contents From = refl
same_contents MessageId = refl
same_contents Newsgroups = refl
same_contents Path = refl
same_contents Subject = refl
same_contents InjectionDate = refl

-- A(a, 1) is an article
pub worked_is_article : IsArticleText (article_text worked) worked
worked_is_article = record { laid_out = worked_laid_out; fields = worked_fields }

-- and with an empty field before the others it is one too
pub with_keywords_is_article : IsArticleText (article_text with_keywords) with_keywords
with_keywords_is_article = record {
  laid_out = record {
    without_nul = refl;
    paired = refl;
    spelled = refl;
    each_field = (
      record { named = refl; set_off = refl; folded = refl },
      worked_laid_out.each_field,
    );
  };
  fields = record {
    often = λ name. subst (λ (x : List (List ℕ)). StandsRightly name (length x))
        (same_contents name) (worked_fields.often name);
    filled = λ name. subst
        (λ (x : List (List ℕ)). IsFalse (list_any (λ c. is_empty (trimmed c)) x))
        (same_contents name) (worked_fields.filled name);
    id = worked_id;
    groups = refl;
  };
}

-- what holds of two lists holds of both in a row
pub all_of_both : {A : Type 0} (P : A → Type 0) (xs ys : List A)
    → AllByRecursion P xs → AllByRecursion P ys → AllByRecursion P (xs ++ ys)
all_of_both P [] ys h k = k
all_of_both P (x ∷ xs) ys h k = (h.0, all_of_both P xs ys h.1 k)

-- none of these faults is one of the text
abbrev pub NoneOf : List ℕ → List Fault → Type 0
NoneOf text faults = AllByRecursion (λ other. ¬ HasFault text other) faults

-- a text that is laid out has no fault of a whole text
pub none_of_text : (text : List ℕ) (a : Article) → IsLaidOut text a
    → NoneOf text (Nul ∷ BareCrLf ∷ NoBlankLine ∷ BadHeader ∷ [])
none_of_text text a h = (
  (λ w. both_ways _ h.without_nul w),
  (
    (λ w. both_ways _ w h.paired),
    (
      (λ w. w (laid_out_line text a h)),
      (
        (λ w. both_ways _ w (laid_out_header text a h)),
        tt,
      ),
    ),
  ),
)

-- the faults of one field, in the order of trial
abbrev pub faults_of : FieldName → List Fault
faults_of name = Missing name ∷ Twice name ∷ EmptyField name ∷ []

-- a field that stands once and is not empty has no fault
pub none_of_field : (text : List ℕ) (a : Article) (name : FieldName) → IsLaidOut text a
    → length (contents_of (name_of name) a.fields) ≡ 1
    → IsFalse (list_any (λ c. is_empty (trimmed c)) (contents_of (name_of name) a.fields))
    → NoneOf text (faults_of name)
none_of_field text a name h once filled = (
  (λ w. let none : length (contents_of (name_of name) a.fields) ≡ 0 =
      ap length (of_these_fields text a _ h w) in omega (arith, once, none)),
  (
    (λ w. let two : 2 ≤ length (contents_of (name_of name) a.fields) =
        of_these_fields text a _ h w in omega (arith, once, two)),
    (
      (λ w. both_ways _ filled (of_these_fields text a _ h w)),
      tt,
    ),
  ),
)
