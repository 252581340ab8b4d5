use Rattle.std.proofs.Common.{◌≡◌, drop, map}
use Rattle.news_terms.specs.Command.{look_up}
use Rattle.nntp_text.specs.Command.{keyword_view}
use Rattle.nntp_text.proofs.keyword.look_up.Given as goal

-- none of the spellings so far is the word's
abbrev pub invariant-loop-entry : goal.invariant-loop-entry
invariant-loop-entry l =
    look_up (map (λ entry. (entry.0.now, keyword_view entry.1)) (drop l.entry-index l.table)) l.word
    ≡ look_up (map (λ entry. (entry.0.now, keyword_view entry.1)) l.table) l.word
