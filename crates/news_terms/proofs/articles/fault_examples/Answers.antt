-- Of each text, the faults that are tried before its own, and that it has none of them.
use Rattle.std.proofs.Common.{◌≡◌, [], ◌∷◌, ◌++◌, take, drop, length, ap, codes, refl, arith}
use Rattle.std.specs.Prelude.{remove}
use Rattle.std.proofs.lemmas.Bool.{both_ways}
use Rattle.news_terms.specs.Article.{Article, Date, From, MessageId, Newsgroups, Path, Fault}
use Rattle.news_terms.specs.Article.{Missing, HasFault, IsLaidOut, article_text, faults_in_order}
use Rattle.news_terms.proofs.EmptyLines.{has_empty_line-iff}
use Rattle.news_terms.proofs.WorkedArticles.{worked, worked_laid_out, NoneOf, all_of_both}
use Rattle.news_terms.proofs.WorkedArticles.{none_of_text, none_of_field, faults_of}
use Rattle.news_terms.proofs.ArticleFaults.{of_these_fields}
use Rattle.news_terms.proofs.articles.fault_examples.Goals as goal

pub returns-clause-octet_zero : goal.returns-clause-octet_zero
returns-clause-octet_zero c = record {
  earlier = [];
  later = drop 1 faults_in_order;
  tried = refl;
  none_earlier = tt;
  is_fault = refl;
}

pub returns-clause-bare_line_feed : goal.returns-clause-bare_line_feed
returns-clause-bare_line_feed c = record {
  earlier = take 1 faults_in_order;
  later = drop 2 faults_in_order;
  tried = refl;
  none_earlier = ((λ w. both_ways _ refl w), tt);
  is_fault = refl;
}

pub returns-clause-ends_inside_header : goal.returns-clause-ends_inside_header
returns-clause-ends_inside_header c = record {
  earlier = take 2 faults_in_order;
  later = drop 3 faults_in_order;
  tried = refl;
  none_earlier = ((λ w. both_ways _ refl w), ((λ w. both_ways _ w refl), tt));
  is_fault = λ h. both_ways _ refl ((has_empty_line-iff (take 100 (article_text worked))).1 h);
}

pub returns-clause-line_without_colon : goal.returns-clause-line_without_colon
returns-clause-line_without_colon c = record {
  earlier = take 3 faults_in_order;
  later = drop 4 faults_in_order;
  tried = refl;
  none_earlier = (
    (λ w. both_ways _ refl w),
    (
      (λ w. both_ways _ w refl),
      (
        (λ w. w ((has_empty_line-iff (codes "Lines 1\r\n" ++ article_text worked)).0 refl)),
        tt,
      ),
    ),
  );
  is_fault = refl;
}

-- A(a, 1) without its Subject
abbrev without_subject : Article
without_subject = record worked { fields = remove worked.fields 3 }

-- and with a Path before its own
abbrev with_path : Article
with_path = record worked {
  fields =
      record { name = codes "Path"; content = codes " x" } ∷ worked.fields;
}

without_subject_laid_out : IsLaidOut (article_text without_subject) without_subject
without_subject_laid_out = record {
  without_nul = refl;
  paired = refl;
  spelled = refl;
  each_field =
      let all = worked_laid_out.each_field in
      (all.0, (all.1.0, (all.1.1.0, all.1.1.1.1)));
}

with_path_laid_out : IsLaidOut (article_text with_path) with_path
with_path_laid_out = record {
  without_nul = refl;
  paired = refl;
  spelled = refl;
  each_field = (record { named = refl; set_off = refl; folded = refl }, worked_laid_out.each_field);
}

-- what is tried before the Path, where the text is laid out and has the fields before it once
before_path : (a : Article) → IsLaidOut (article_text a) a
    → NoneOf (article_text a) (faults_of Date) → NoneOf (article_text a) (faults_of From)
    → NoneOf (article_text a) (faults_of MessageId) → NoneOf (article_text a) (faults_of Newsgroups)
    → NoneOf (article_text a) (take 16 faults_in_order)
before_path a h date from id groups =
    let Is : Fault → Type 0 = λ other. ¬ HasFault (article_text a) other in
    all_of_both Is (take 4 faults_in_order) (drop 4 (take 16 faults_in_order))
    (none_of_text (article_text a) a h)
    (all_of_both Is (faults_of Date) (drop 7 (take 16 faults_in_order)) date
    (all_of_both Is (faults_of From) (drop 10 (take 16 faults_in_order)) from
    (all_of_both Is (faults_of MessageId) (faults_of Newsgroups) id groups)))

pub returns-clause-no_subject : goal.returns-clause-no_subject
returns-clause-no_subject c =
    let text = article_text without_subject in
    let h = without_subject_laid_out in
    record {
      earlier = take 19 faults_in_order;
      later = drop 20 faults_in_order;
      tried = refl;
      none_earlier =
          all_of_both (λ other. ¬ HasFault text other) (take 16 faults_in_order) (faults_of Path)
          (before_path without_subject h
          (none_of_field text without_subject Date h refl refl)
          (none_of_field text without_subject From h refl refl)
          (none_of_field text without_subject MessageId h refl refl)
          (none_of_field text without_subject Newsgroups h refl refl))
          (none_of_field text without_subject Path h refl refl);
      is_fault = (without_subject, h, refl);
    }

pub returns-clause-two_paths : goal.returns-clause-two_paths
returns-clause-two_paths c =
    let text = article_text with_path in
    let h = with_path_laid_out in
    record {
      earlier = take 17 faults_in_order;
      later = drop 18 faults_in_order;
      tried = refl;
      none_earlier =
          all_of_both (λ other. ¬ HasFault text other) (take 16 faults_in_order) (Missing Path ∷ [])
          (before_path with_path h
          (none_of_field text with_path Date h refl refl)
          (none_of_field text with_path From h refl refl)
          (none_of_field text with_path MessageId h refl refl)
          (none_of_field text with_path Newsgroups h refl refl)) (
            (λ w. let none : 2 ≡ 0 = ap length (of_these_fields text with_path _ h w) in
                omega (arith, none)),
            tt,
          );
      is_fault = (with_path, h, omega arith);
    }

-- A(a, 1) without its Date and its From
abbrev without_date_and_from : Article
without_date_and_from = record worked { fields = remove (remove worked.fields 5) 1 }

without_date_and_from_laid_out
    : IsLaidOut (article_text without_date_and_from) without_date_and_from
without_date_and_from_laid_out = record {
  without_nul = refl;
  paired = refl;
  spelled = refl;
  each_field =
      let all = worked_laid_out.each_field in
      (all.0, (all.1.1.0, (all.1.1.1.0, (all.1.1.1.1.0, tt))));
}

pub returns-clause-no_date_and_no_from : goal.returns-clause-no_date_and_no_from
returns-clause-no_date_and_no_from c =
    let text = article_text without_date_and_from in
    let h = without_date_and_from_laid_out in
    record {
      earlier = take 4 faults_in_order;
      later = drop 5 faults_in_order;
      tried = refl;
      none_earlier = none_of_text text without_date_and_from h;
      is_fault = (without_date_and_from, h, refl);
    }
