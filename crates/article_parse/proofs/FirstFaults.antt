-- The first fault of a text, from the tests in their order.
use Rattle.std.proofs.Common.{◌≡◌, ℕ, ◌≤◌, Bool, true, false, List, [], ◌∷◌, ◌++◌, length}
use Rattle.std.proofs.Common.{refl, sym, ap, subst, ◌∙◌, arith, ⊎_elim, Option, None, Some}
use Rattle.std.specs.Prelude.{not, ◌==◌, nat_le, IsFalse, is_some}
use Rattle.std.specs.List.{AllByRecursion, list_any}
use Rattle.std.proofs.lemmas.Bool.{cases_Bool, cond-true, cond-false, eqb-true, eqb-false}
use Rattle.std.proofs.lemmas.Bool.{both_ways}
use Rattle.std.proofs.lemmas.Bool.{leb-true, leb-false, le-leb}
use Rattle.std.proofs.lemmas.List.{nil_from_length}
use Rattle.std.proofs.lemmas.Option.{same_Some}
use Rattle.news_terms.proofs.IdFaults.{id_fault-none}
use Rattle.news_terms.specs.Article.{Field, Fault, Nul, BareCrLf, NoBlankLine, BadHeader, Missing}
use Rattle.news_terms.specs.Article.{Twice, EmptyField, BadId, BadGroups, Date, From}
use Rattle.news_terms.specs.Article.{MessageId, Newsgroups, Path, Subject, InjectionDate, Article}
use Rattle.news_terms.specs.Article.{IsLaidOut, HasFault, IsFirstFault, contents_of}
use Rattle.news_terms.specs.Article.{name_of, has_empty_line, HasEmptyLine, AreArticleFields}
use Rattle.news_terms.specs.Article.{StandsRightly, message_id}
use Rattle.news_terms.specs.Article.{has_nul, is_paired, are_header_lines, header_lines}
use Rattle.news_terms.proofs.EmptyLines.{has_empty_line-iff}
use Rattle.news_terms.proofs.ArticleFaults.{laid_out_line, laid_out_header, of_these_fields}
use Rattle.std.specs.Prelude.{drop, IsErrAnd, Result, Ok, Err}
use Rattle.news_terms.specs.Article.{is_empty, trimmed}
use Rattle.article_parse.specs.Faults.{is_wrong, first_that, field_faults, ErrorGives, IsFaultOf}
use Rattle.article_parse.specs.Faults.{name_view, FaultGives}
use Rattle.article_parse.specs.Reads.{IsHeader}
use Rattle.article_parse.specs.declared.faults.ArtError.{ArtError}
use Rattle.article_parse.specs.declared.faults.ArtError.TheVariants as errors

-- what the first of some faults says of them
record IsFirstOf (test : Fault → Bool) (faults : List Fault) (fault : Fault) : Type 0 where
  earlier : List Fault
  later : List Fault
  whole : faults ≡ earlier ++ fault ∷ later
  none_earlier : AllByRecursion (λ other. test other ≡ false) earlier
  found : test fault ≡ true

-- the first that a test finds is the first of them
first_of_them : (test : Fault → Bool) (faults : List Fault) (fault : Fault)
    → first_that test faults ≡ Some fault → IsFirstOf test faults fault
first_of_them test [] fault e = cc
first_of_them test (f ∷ more) fault e = ⊎_elim
    (λ t.
    let same : f ≡ fault =
    same_Some f fault (sym (cond-true (test f) (Some f) (first_that test more) t) ∙ e) in
    record {
      earlier = [];
      later = more;
      whole = ap (λ x. x ∷ more) same;
      none_earlier = tt;
      found = ap test (sym same) ∙ t;
    })
    (λ n.
    let rest = first_of_them test more fault
    (sym (cond-false (test f) (Some f) (first_that test more) n) ∙ e) in
    record {
      earlier = f ∷ rest.earlier;
      later = rest.later;
      whole = ap (λ x. f ∷ x) rest.whole;
      none_earlier = (n, rest.none_earlier);
      found = rest.found;
    })
    (cases_Bool (test f))

-- where a test finds none, it fails at each
all_fail : (test : Fault → Bool) (faults : List Fault) → first_that test faults ≡ None
    → AllByRecursion (λ other. test other ≡ false) faults
all_fail test [] e = tt
all_fail test (f ∷ more) e = ⊎_elim
    (λ t.
    let no_fault : Some f ≡ None =
    sym (cond-true (test f) (Some f) (first_that test more) t) ∙ e in cc)
    (λ n. (n, all_fail test more (sym (cond-false (test f) (Some f) (first_that test more) n) ∙ e)))
    (cases_Bool (test f))

-- what fails at each of some faults is no fault of the text
none_of : (text : List ℕ) (test : Fault → Bool) (faults : List Fault)
    → ((fault : Fault) → test fault ≡ false → ¬ HasFault text fault)
    → AllByRecursion (λ other. test other ≡ false) faults
    → AllByRecursion (λ other. ¬ HasFault text other) faults
none_of text test [] h all = tt
none_of text test (f ∷ more) h all = (h f all.0, none_of text test more h all.1)

-- an octet 0 is tried first
pub first_nul : (text : List ℕ) → has_nul text ≡ true → IsFirstFault text Nul
first_nul text h = record {
  earlier = [];
  later = BareCrLf ∷ NoBlankLine ∷ BadHeader ∷ field_faults;
  tried = refl;
  none_earlier = tt;
  is_fault = h;
}

-- then line ends that are no pairs
pub first_bare : (text : List ℕ) → has_nul text ≡ false → is_paired text ≡ false
    → IsFirstFault text BareCrLf
first_bare text nul h = record {
  earlier = Nul ∷ [];
  later = NoBlankLine ∷ BadHeader ∷ field_faults;
  tried = refl;
  none_earlier = (λ w. both_ways _ nul w, tt);
  is_fault = h;
}

-- a text whose test says so has no empty line
no_line : (text : List ℕ) → has_empty_line text ≡ false → ¬ HasEmptyLine text
no_line text h line = both_ways _ h ((has_empty_line-iff text).1 line)

-- then the empty line
pub first_blank : (text : List ℕ) → has_nul text ≡ false → is_paired text ≡ true
    → has_empty_line text ≡ false → IsFirstFault text NoBlankLine
first_blank text nul paired h = record {
  earlier = Nul ∷ BareCrLf ∷ [];
  later = BadHeader ∷ field_faults;
  tried = refl;
  none_earlier = (λ w. both_ways _ nul w, (λ w. both_ways _ w paired, tt));
  is_fault = no_line text h;
}

-- then the lines of the header
pub first_header : (text : List ℕ) → has_nul text ≡ false → is_paired text ≡ true
    → has_empty_line text ≡ true → are_header_lines (header_lines text) ≡ false
    → IsFirstFault text BadHeader
first_header text nul paired line h = record {
  earlier = Nul ∷ BareCrLf ∷ NoBlankLine ∷ [];
  later = field_faults;
  tried = refl;
  none_earlier = (
    λ w. both_ways _ nul w,
    (λ w. both_ways _ w paired, (λ w. w ((has_empty_line-iff text).0 line), tt)),
  );
  is_fault = h;
}

-- what a test finds of the fields is a fault of the text
wrong_is_fault : (text : List ℕ) (a : Article) (fault : Fault) → IsLaidOut text a
    → is_wrong a.fields fault ≡ true → HasFault text fault
wrong_is_fault text a Nul h w = absurd (both_ways _ refl w)
wrong_is_fault text a BareCrLf h w = absurd (both_ways _ refl w)
wrong_is_fault text a NoBlankLine h w = absurd (both_ways _ refl w)
wrong_is_fault text a BadHeader h w = absurd (both_ways _ refl w)
wrong_is_fault text a (Missing name) h w =
    (a, h, nil_from_length (contents_of (name_of name) a.fields) (eqb-true _ 0 w))
wrong_is_fault text a (Twice name) h w = (a, h, leb-true 2 _ w)
wrong_is_fault text a (EmptyField name) h w = (a, h, w)
wrong_is_fault text a BadId h w =
    (a, h, λ id. both_ways _ (ap is_some ((id_fault-none (message_id a.fields)).1 id)) w)
wrong_is_fault text a BadGroups h w = (a, h, not_true _ w)
  where
    not_true : (b : Bool) → not b ≡ true → b ≡ false
    not_true true e = sym e
    not_true false e = refl

-- what no test finds is no fault of the text
right_is_none : (text : List ℕ) (a : Article) (fault : Fault) → IsLaidOut text a
    → is_wrong a.fields fault ≡ false → ¬ HasFault text fault
right_is_none text a Nul h w f = both_ways _ h.without_nul f
right_is_none text a BareCrLf h w f = both_ways _ f h.paired
right_is_none text a NoBlankLine h w f = f (laid_out_line text a h)
right_is_none text a BadHeader h w f = both_ways _ f (laid_out_header text a h)
right_is_none text a (Missing name) h w f =
    let none : contents_of (name_of name) a.fields ≡ [] = of_these_fields text a _ h f in
    eqb-false (length (contents_of (name_of name) a.fields)) 0 w (ap length none)
right_is_none text a (Twice name) h w f =
    let two : 2 ≤ length (contents_of (name_of name) a.fields) = of_these_fields text a _ h f in
    both_ways _ w (le-leb 2 _ two)
right_is_none text a (EmptyField name) h w f = both_ways _ w (of_these_fields text a _ h f)
right_is_none text a BadId h w f =
    of_these_fields text a _ h f ((id_fault-none (message_id a.fields)).0 (none_is _ w))
  where
    none_is : {X : Type 0} (o : Option X) → is_some o ≡ false → o ≡ None
    none_is None e = refl
    none_is (Some x) e = absurd (both_ways _ e refl)
right_is_none text a BadGroups h w f =
    both_ways _ (of_these_fields text a _ h f) (is_true _ w)
  where
    is_true : (b : Bool) → not b ≡ false → b ≡ true
    is_true true e = refl
    is_true false e = sym e

-- the first fault of the fields is the first of a text that is laid out with them
pub first_field : (text : List ℕ) (a : Article) (fault : Fault) → IsLaidOut text a
    → first_that (is_wrong a.fields) field_faults ≡ Some fault → IsFirstFault text fault
first_field text a fault h e =
    let first = first_of_them (is_wrong a.fields) field_faults fault e in
    record {
      earlier = Nul ∷ BareCrLf ∷ NoBlankLine ∷ BadHeader ∷ first.earlier;
      later = first.later;
      tried = ap (λ x. Nul ∷ BareCrLf ∷ NoBlankLine ∷ BadHeader ∷ x) first.whole;
      none_earlier = (
        right_is_none text a Nul h refl,
        (
          right_is_none text a BareCrLf h refl,
          (
            right_is_none text a NoBlankLine h refl,
            (
              right_is_none text a BadHeader h refl,
              none_of text (is_wrong a.fields) first.earlier (λ f. right_is_none text a f h)
                  first.none_earlier,
            ),
          ),
        ),
      );
      is_fault = wrong_is_fault text a fault h first.found;
    }

-- a number that is neither none nor two and more is one
one_time : (n : ℕ) → (n == 0) ≡ false → nat_le 2 n ≡ false → n ≡ 1
one_time n some one =
    let s = eqb-false n 0 some in
    let o = leb-false 2 n one in
    omega (arith, s, o)

-- fields without a fault are those of an article
pub fields_right : (fields : List Field) → first_that (is_wrong fields) field_faults ≡ None
    → AreArticleFields fields
fields_right fields e =
    let date = all_fail (is_wrong fields) field_faults e in
    let from = date.1.1.1 in
    let id = from.1.1.1 in
    let groups = id.1.1.1 in
    let path = groups.1.1.1 in
    let subject = path.1.1.1 in
    let injection = subject.1.1.1 in
    let last = injection.1.1 in
    record {
      often = λ name. elim name as
          (λ n. StandsRightly n (length (contents_of (name_of n) fields))) [
            | Date ↦ one_time _ date.0 date.1.0
            | From ↦ one_time _ from.0 from.1.0
            | MessageId ↦ one_time _ id.0 id.1.0
            | Newsgroups ↦ one_time _ groups.0 groups.1.0
            | Path ↦ one_time _ path.0 path.1.0
            | Subject ↦ one_time _ subject.0 subject.1.0
            | InjectionDate ↦ let o = leb-false 2 _ injection.0 in omega (arith, o)
          ];
      filled = λ name. elim name as
          (λ n. IsFalse (list_any (λ c. is_empty (trimmed c)) (contents_of (name_of n) fields))) [
            | Date ↦ date.1.1.0
            | From ↦ from.1.1.0
            | MessageId ↦ id.1.1.0
            | Newsgroups ↦ groups.1.1.0
            | Path ↦ path.1.1.0
            | Subject ↦ subject.1.1.0
            | InjectionDate ↦ injection.1.0
          ];
      id = (id_fault-none (message_id fields)).0 (none_is _ last.0);
      groups = is_true _ last.1.0;
    }
  where
    none_is : {X : Type 0} (o : Option X) → is_some o ≡ false → o ≡ None
    none_is None e = refl
    none_is (Some x) e = absurd (both_ways _ e refl)

    is_true : (b : Bool) → not b ≡ false → b ≡ true
    is_true true e = refl
    is_true false e = sym e

-- the error that the tests of the fields ask for is the first fault of the text
pub error_is_first : (text : List ℕ) (a : Article) (error : ArtError) → IsLaidOut text a
    → ErrorGives error (first_that (is_wrong a.fields) field_faults)
    → IsFaultOf text error
error_is_first text a errors.Memory h g = tt
error_is_first text a errors.NoBlankLine h g = first_field text a NoBlankLine h g
error_is_first text a errors.BadHeader h g = first_field text a BadHeader h g
error_is_first text a errors.BareCrLf h g = first_field text a BareCrLf h g
error_is_first text a errors.Nul h g = first_field text a Nul h g
error_is_first text a (errors.Missing name) h g = first_field text a (Missing (name_view name)) h g
error_is_first text a (errors.Twice name) h g = first_field text a (Twice (name_view name)) h g
error_is_first text a (errors.EmptyField name) h g =
    first_field text a (EmptyField (name_view name)) h g
error_is_first text a errors.BadId h g = first_field text a BadId h g
error_is_first text a errors.BadGroups h g = first_field text a BadGroups h g

-- a header that was read lays the text out
pub laid_out : (text : List ℕ) (fields : List Field) (body_at : ℕ) → has_nul text ≡ false
    → is_paired text ≡ true → IsHeader text fields body_at
    → IsLaidOut text (record { fields = fields; body = drop body_at text })
laid_out text fields body_at nul paired h = record {
  without_nul = nul;
  paired = paired;
  spelled = h.spelled;
  each_field = h.each_field;
}

-- a fault found among some is found among more
found_goes : (test : Fault → Bool) (xs ys : List Fault) (fault : Fault)
    → first_that test xs ≡ Some fault → first_that test (xs ++ ys) ≡ Some fault
found_goes test [] ys fault e = cc
found_goes test (x ∷ xs) ys fault e = ⊎_elim
    (λ t. cond-true (test x) (Some x) (first_that test (xs ++ ys)) t
    ∙ sym (cond-true (test x) (Some x) (first_that test xs) t) ∙ e)
    (λ n. cond-false (test x) (Some x) (first_that test (xs ++ ys)) n
    ∙ found_goes test xs ys fault
    (sym (cond-false (test x) (Some x) (first_that test xs) n) ∙ e))
    (cases_Bool (test x))

-- where none is found among some, the first is among those behind them
pub found_later : (test : Fault → Bool) (xs ys : List Fault) → first_that test xs ≡ None
    → first_that test (xs ++ ys) ≡ first_that test ys
found_later test [] ys e = refl
found_later test (x ∷ xs) ys e = ⊎_elim
    (λ t.
    let found : Some x ≡ None =
    sym (cond-true (test x) (Some x) (first_that test xs) t) ∙ e in cc)
    (λ n. cond-false (test x) (Some x) (first_that test (xs ++ ys)) n
    ∙ found_later test xs ys (sym (cond-false (test x) (Some x) (first_that test xs) n) ∙ e))
    (cases_Bool (test x))

-- the same of the error that they ask for
pub gives_longer : (test : Fault → Bool) (xs ys : List Fault) (error : ArtError)
    → ErrorGives error (first_that test xs) → ErrorGives error (first_that test (xs ++ ys))
gives_longer test xs ys errors.Memory g = tt
gives_longer test xs ys errors.NoBlankLine g = found_goes test xs ys NoBlankLine g
gives_longer test xs ys errors.BadHeader g = found_goes test xs ys BadHeader g
gives_longer test xs ys errors.BareCrLf g = found_goes test xs ys BareCrLf g
gives_longer test xs ys errors.Nul g = found_goes test xs ys Nul g
gives_longer test xs ys (errors.Missing name) g = found_goes test xs ys (Missing (name_view name)) g
gives_longer test xs ys (errors.Twice name) g = found_goes test xs ys (Twice (name_view name)) g
gives_longer test xs ys (errors.EmptyField name) g =
    found_goes test xs ys (EmptyField (name_view name)) g
gives_longer test xs ys errors.BadId g = found_goes test xs ys BadId g
gives_longer test xs ys errors.BadGroups g = found_goes test xs ys BadGroups g

-- what is answered of the tests behind those that find none is answered of all
pub answered_later : {X : Type 0} (r : Result X ArtError) (test : Fault → Bool) (xs ys : List Fault)
    → first_that test xs ≡ None → FaultGives r (first_that test ys)
    → FaultGives r (first_that test (xs ++ ys))
answered_later r test xs ys none g =
    subst (λ (o : Option Fault). FaultGives r o) (sym (found_later test xs ys none)) g

-- an error that is handed on is still that of the fault
pub handed_on : {X : Type 0} (r : Result X ArtError) (error : ArtError) (fault : Option Fault)
    → IsErrAnd r (λ e. e ≡ error) → ErrorGives error fault → FaultGives r fault
handed_on (Ok x) error fault is g = absurd is
handed_on (Err e) error fault is g =
    subst (λ (one : ArtError). ErrorGives one fault) (sym is) g
