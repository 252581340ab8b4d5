use Rattle.std.proofs.Common.{◌≡◌, map}
use Rattle.id_history.specs.Views.{feed_view}
use Rattle.found_again.specs.Filling.{filled}
use Rattle.found_again.proofs.feeds.Fillings.into_feeds.Given as goal

-- what is left of the rings so far
abbrev pub invariant-loop-ring : goal.invariant-loop-ring
invariant-loop-ring l = map feed_view l.feeds.items ≡ map filled l.yielded
