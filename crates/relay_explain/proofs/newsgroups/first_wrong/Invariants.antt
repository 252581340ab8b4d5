use Rattle.std.proofs.Common.{◌≡◌, drop, map}
use Rattle.std.specs.Prelude.{find, not}
use Rattle.news_terms.specs.Article.{is_newsgroup_name}
use Rattle.relay_explain.proofs.newsgroups.first_wrong.Given as goal

-- each name so far is a newsgroup's
abbrev pub invariant-loop-name : goal.invariant-loop-name
invariant-loop-name l =
    find (λ name. not (is_newsgroup_name name))
    (map (λ name. name.now) (drop l.name-index l.names))
    ≡ find (λ name. not (is_newsgroup_name name)) (map (λ name. name.now) l.names)
