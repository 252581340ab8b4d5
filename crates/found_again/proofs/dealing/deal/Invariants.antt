use Rattle.std.proofs.Common.{◌≡◌, ◌-◌, ◌++◌, map}
use Rattle.std.specs.Prelude.{reverse}
use Rattle.found_again.specs.Dealing.{dealt, longest, rounds}
use Rattle.found_again.specs.Lists.{texts_of}
use Rattle.found_again.proofs.dealing.deal.Given as goal

-- with what the rounds to come will give, all is dealt
abbrev pub invariant-loop : goal.invariant-loop
invariant-loop l =
    rounds (longest (map texts_of l.fn.per_buffer.items) - l.counter) (map texts_of l.left.items)
    ++ reverse l.newest_first.items
    ≡ dealt (map texts_of l.fn.per_buffer.items)
