use Rattle.std.proofs.Common.{◌≡◌, length}
use Rattle.std.specs.List.{list_all}
use Rattle.line_words.specs.Parts.{parts, parts_after}
use Rattle.relay_conf.specs.Words.{is_name}
use Rattle.relay_conf.proofs.cycbuff_lines.has_names_alone.Given as goal

-- each part so far is a name
abbrev pub invariant-loop-unread : goal.invariant-loop-unread
invariant-loop-unread l =
    list_all is_name (parts_after 44 l.unread) ≡ list_all is_name (parts 44 l.list)

abbrev pub decreases-loop-unread : goal.decreases-loop-unread
decreases-loop-unread l = length (parts_after 44 l.unread)
