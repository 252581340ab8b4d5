-- The faults of a field are found where those before it have none.
use Rattle.std.proofs.Common.{List, ◌++◌}
use Rattle.std.specs.Prelude.{map}
use Rattle.news_terms.specs.Article.{Fault, Date, From, MessageId, Newsgroups, Path, Subject}
use Rattle.news_terms.specs.Article.{InjectionDate}
use Rattle.article_parse.specs.Header.{field_view}
use Rattle.article_parse.specs.Faults.{faults_of, first_that, is_wrong, named_faults}
use Rattle.article_parse.specs.Faults.{optional_faults_of}
use Rattle.article_parse.proofs.FirstFaults.{answered_later, gives_longer, handed_on}
use Rattle.article_parse.proofs.faults.try_names.Goals as goal

-- the faults from those of Injection-Date on, and so further to the front
abbrev on_date : List Fault
on_date = optional_faults_of InjectionDate

abbrev on_subject : List Fault
on_subject = faults_of Subject ++ on_date

abbrev on_path : List Fault
on_path = faults_of Path ++ on_subject

abbrev on_groups : List Fault
on_groups = faults_of Newsgroups ++ on_path

abbrev on_id : List Fault
on_id = faults_of MessageId ++ on_groups

abbrev on_from : List Fault
on_from = faults_of From ++ on_id

pub returns-in_err-try_mandatory : goal.returns-in_err-try_mandatory
returns-in_err-try_mandatory c =
    let test = is_wrong (map field_view c.args.fields.now) in
    let r = c.from_residual.result in
    let error = c.in_err-try_mandatory.field-0.0 in
    handed_on r error (first_that test named_faults) c.from_residual.ensures.1
    (gives_longer test (faults_of Date) on_from error c.in_err-try_mandatory.ensures)

pub returns-in_err-try_mandatory-2 : goal.returns-in_err-try_mandatory-2
returns-in_err-try_mandatory-2 c =
    let test = is_wrong (map field_view c.args.fields.now) in
    let r = c.from_residual-in_err-try_mandatory-2.result in
    let error = c.in_err-try_mandatory-2.field-0.0 in
    answered_later r test (faults_of Date) on_from c.in_ok-try_mandatory.ensures
    (handed_on r error (first_that test on_from) c.from_residual-in_err-try_mandatory-2.ensures.1
    (gives_longer test (faults_of From) on_id error c.in_err-try_mandatory-2.ensures))

pub returns-in_err-try_mandatory-3 : goal.returns-in_err-try_mandatory-3
returns-in_err-try_mandatory-3 c =
    let test = is_wrong (map field_view c.args.fields.now) in
    let r = c.from_residual-in_err-try_mandatory-3.result in
    let error = c.in_err-try_mandatory-3.field-0.0 in
    answered_later r test (faults_of Date) on_from c.in_ok-try_mandatory.ensures
    (answered_later r test (faults_of From) on_id c.in_ok-try_mandatory-2.ensures
    (handed_on r error (first_that test on_id) c.from_residual-in_err-try_mandatory-3.ensures.1
    (gives_longer test (faults_of MessageId) on_groups error c.in_err-try_mandatory-3.ensures)))

pub returns-in_err-try_mandatory-4 : goal.returns-in_err-try_mandatory-4
returns-in_err-try_mandatory-4 c =
    let test = is_wrong (map field_view c.args.fields.now) in
    let r = c.from_residual-in_err-try_mandatory-4.result in
    let error = c.in_err-try_mandatory-4.field-0.0 in
    answered_later r test (faults_of Date) on_from c.in_ok-try_mandatory.ensures
    (answered_later r test (faults_of From) on_id c.in_ok-try_mandatory-2.ensures
    (answered_later r test (faults_of MessageId) on_groups c.in_ok-try_mandatory-3.ensures
    (handed_on r error (first_that test on_groups) c.from_residual-in_err-try_mandatory-4.ensures.1
    (gives_longer test (faults_of Newsgroups) on_path error c.in_err-try_mandatory-4.ensures))))

pub returns-in_err-try_mandatory-5 : goal.returns-in_err-try_mandatory-5
returns-in_err-try_mandatory-5 c =
    let test = is_wrong (map field_view c.args.fields.now) in
    let r = c.from_residual-in_err-try_mandatory-5.result in
    let error = c.in_err-try_mandatory-5.field-0.0 in
    answered_later r test (faults_of Date) on_from c.in_ok-try_mandatory.ensures
    (answered_later r test (faults_of From) on_id c.in_ok-try_mandatory-2.ensures
    (answered_later r test (faults_of MessageId) on_groups c.in_ok-try_mandatory-3.ensures
    (answered_later r test (faults_of Newsgroups) on_path c.in_ok-try_mandatory-4.ensures
    (handed_on r error (first_that test on_path) c.from_residual-in_err-try_mandatory-5.ensures.1
    (gives_longer test (faults_of Path) on_subject error c.in_err-try_mandatory-5.ensures)))))

pub returns-in_err-try_mandatory-6 : goal.returns-in_err-try_mandatory-6
returns-in_err-try_mandatory-6 c =
    let test = is_wrong (map field_view c.args.fields.now) in
    let r = c.from_residual-in_err-try_mandatory-6.result in
    let error = c.in_err-try_mandatory-6.field-0.0 in
    answered_later r test (faults_of Date) on_from c.in_ok-try_mandatory.ensures
    (answered_later r test (faults_of From) on_id c.in_ok-try_mandatory-2.ensures
    (answered_later r test (faults_of MessageId) on_groups c.in_ok-try_mandatory-3.ensures
    (answered_later r test (faults_of Newsgroups) on_path c.in_ok-try_mandatory-4.ensures
    (answered_later r test (faults_of Path) on_subject c.in_ok-try_mandatory-5.ensures
    (handed_on r error (first_that test on_subject) c.from_residual-in_err-try_mandatory-6.ensures.1
    (gives_longer test (faults_of Subject) on_date error c.in_err-try_mandatory-6.ensures))))))

pub returns : goal.returns
returns c =
    let test = is_wrong (map field_view c.args.fields.now) in
    let r = c.try_optional.result in
    answered_later r test (faults_of Date) on_from c.in_ok-try_mandatory.ensures
    (answered_later r test (faults_of From) on_id c.in_ok-try_mandatory-2.ensures
    (answered_later r test (faults_of MessageId) on_groups c.in_ok-try_mandatory-3.ensures
    (answered_later r test (faults_of Newsgroups) on_path c.in_ok-try_mandatory-4.ensures
    (answered_later r test (faults_of Path) on_subject c.in_ok-try_mandatory-5.ensures
    (answered_later r test (faults_of Subject) on_date c.in_ok-try_mandatory-6.ensures
    (c.try_optional.ensures))))))
