use Rattle.std.proofs.Common.{◌≡◌, length}
use Rattle.std.specs.List.{list_all}
use Rattle.line_words.specs.Parts.{parts, parts_after}
use Rattle.news_terms.specs.Article.{is_newsgroup_name, without_outer_white}
use Rattle.article_parse.proofs.groups.are_newsgroup_names.Given as goal

-- each piece so far is a newsgroup name
abbrev pub invariant-loop-unread : goal.invariant-loop-unread
invariant-loop-unread l =
    list_all (λ piece. is_newsgroup_name (without_outer_white piece)) (parts_after 44 l.unread)
    ≡ list_all (λ piece. is_newsgroup_name (without_outer_white piece)) (parts 44 l.text)

abbrev pub decreases-loop-unread : goal.decreases-loop-unread
decreases-loop-unread l = length (parts_after 44 l.unread)
