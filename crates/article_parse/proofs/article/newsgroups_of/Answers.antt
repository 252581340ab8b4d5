use Rattle.std.proofs.Common.{◌≡◌, ◌∙◌, ap, sym, Bool, List, ℕ, Some, None, Option}
use Rattle.std.specs.Prelude.{not, if◌then◌else◌, ◌==◌, map}
use Rattle.std.specs.List.{list_all, slice_split}
use Rattle.std.specs.Str.{byte}
use Rattle.std.proofs.lemmas.List.Folds.{list_all-map}
use Rattle.news_terms.specs.Article.{Field, Fault, BadGroups, is_newsgroup_name, newsgroups}
use Rattle.news_terms.specs.Article.{without_outer_white, unfolded, trimmed, content_or_empty}
use Rattle.news_terms.specs.Article.{name_of, Newsgroups}
use Rattle.article_parse.specs.Header.{field_view}
use Rattle.article_parse.proofs.article.newsgroups_of.Goals as goal

-- what the test of the trimmed content says of the newsgroups
groups_test : (fields : List Field) (text : List ℕ) (r : Bool)
    → r ≡ list_all (λ piece. is_newsgroup_name (without_outer_white piece))
    (slice_split (λ c. c == byte ",") text)
    → text ≡ trimmed (content_or_empty (name_of Newsgroups) fields)
    → list_all is_newsgroup_name (newsgroups fields) ≡ r
groups_test fields text r e same =
    list_all-map is_newsgroup_name without_outer_white
    (slice_split (λ c. c == byte ",") (trimmed (content_or_empty (name_of Newsgroups) fields)))
    ∙ ap (λ x. list_all (λ piece. is_newsgroup_name (without_outer_white piece))
    (slice_split (λ c. c == byte ",") x)) (sym same)
    ∙ sym e

-- what is tried of the newsgroups
abbrev tried : Bool → Option Fault
tried b = if not b then Some BadGroups else None

pub returns-then-are_newsgroup_names-clause-fault
    : goal.returns-then-are_newsgroup_names-clause-fault
returns-then-are_newsgroup_names-clause-fault c =
    ap tried (groups_test (map field_view c.args.fields.now) c.trim.result.now _
    c.if-are_newsgroup_names.ensures
    (c.trim.ensures ∙ ap without_outer_white (c.deref.ensures.value ∙ c.in_ok-line.ensures
    ∙ ap unfolded c.content_or_empty.ensures)))

pub returns-clause-fault : goal.returns-clause-fault
returns-clause-fault c =
    ap tried (groups_test (map field_view c.args.fields.now) c.trim.result.now _
    c.if-are_newsgroup_names.ensures
    (c.trim.ensures ∙ ap without_outer_white (c.deref.ensures.value ∙ c.in_ok-line.ensures
    ∙ ap unfolded c.content_or_empty.ensures)))
