use Rattle.std.proofs.Common.{◌≡◌, ◌++◌, map, length}
use Rattle.line_words.specs.Parts.{parts, parts_after}
use Rattle.news_terms.specs.Article.{without_outer_white}
use Rattle.relay_explain.proofs.newsgroups.names_in.Given as goal

-- the names so far stand before those of what is left
abbrev pub invariant-loop-unread : goal.invariant-loop-unread
invariant-loop-unread l =
    map (λ name. name.now) l.names.items ++ map without_outer_white (parts_after 44 l.unread)
    ≡ map without_outer_white (parts 44 l.newsgroups)

abbrev pub decreases-loop-unread : goal.decreases-loop-unread
decreases-loop-unread l = length (parts_after 44 l.unread)
