use Rattle.std.proofs.Common.{◌≡◌, length}
use Rattle.std.specs.List.{list_all}
use Rattle.line_words.specs.Parts.{parts, parts_after}
use Rattle.news_terms.specs.Article.{is_component}
use Rattle.relay_explain.proofs.newsgroups.is_newsgroup_name.Given as goal

-- each component so far is one
abbrev pub invariant-loop-unread : goal.invariant-loop-unread
invariant-loop-unread l =
    list_all is_component (parts_after 46 l.unread) ≡ list_all is_component (parts 46 l.text)

abbrev pub decreases-loop-unread : goal.decreases-loop-unread
decreases-loop-unread l = length (parts_after 46 l.unread)
