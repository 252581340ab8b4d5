use Rattle.std.proofs.Common.{◌≡◌, ◌++◌, drop, map, option_map}
use Rattle.line_words.specs.Words.{words}
use Rattle.line_words.specs.declared.words.Between.TheVariants.{Spaces}
use Rattle.relay_metrics.specs.Lines.{numbers_by}
use Rattle.relay_metrics.proofs.numbers.numbers_by.Given as goal

-- the numbers so far stand before those that are left
abbrev pub invariant-loop-key : goal.invariant-loop-key
invariant-loop-key l =
    numbers_by (map (λ key. key.now) l.fn.keys) (words Spaces l.fn.rest)
    ≡ option_map (λ more. map (λ number. number.now) l.numbers.items ++ more)
    (numbers_by (map (λ key. key.now) (drop l.key-index l.fn.keys)) (words Spaces l.left))
