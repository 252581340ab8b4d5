use Rattle.std.proofs.Common.{◌≡◌, ◌++◌, map, length}
use Rattle.line_words.specs.Words.{words}
use Rattle.line_words.specs.declared.words.Between.TheVariants.{Spaces}
use Rattle.relay_explain.proofs.callers.push_for_words.Given as goal

-- one for each word so far stands before those of the words that are left
abbrev pub invariant-loop-rest : goal.invariant-loop-rest
invariant-loop-rest l =
    l.numbers.items ++ map (λ word. l.number) (words Spaces l.unread)
    ≡ l.fn.numbers.items ++ map (λ word. l.number) (words Spaces l.text)

abbrev pub decreases-loop-rest : goal.decreases-loop-rest
decreases-loop-rest l = length (words Spaces l.unread)
