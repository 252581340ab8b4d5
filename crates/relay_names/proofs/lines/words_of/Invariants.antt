use Rattle.std.proofs.Common.{◌≡◌, ◌++◌, length}
use Rattle.line_words.specs.Words.{words}
use Rattle.line_words.specs.declared.words.Between.TheVariants.{Spaces}
use Rattle.relay_names.proofs.lines.words_of.Given as goal

-- the words kept stand before those that are left
abbrev pub invariant-loop-word : goal.invariant-loop-word
invariant-loop-word l = l.kept.items ++ words Spaces l.unread ≡ words Spaces l.text

abbrev pub decreases-loop-word : goal.decreases-loop-word
decreases-loop-word l = length (words Spaces l.unread)
