-- The numbers of a feed: what was taken, waits and was overwritten is all that was gained.
use Rattle.std.proofs.Common.{◌≡◌, ◌∙◌, ℕ, ◌+◌, ◌-◌, ◌≤◌}
use Rattle.std.proofs.Common.{length, drop, ap, arith}
use Rattle.std.proofs.Common.{length-drop, le_refl}
use Rattle.relay_model.specs.Figures.{feed_figures}
use Rattle.relay_model.specs.OnRecord.{PassesInOrder}
use Rattle.relay_model.specs.State.{Feed}
use Rattle.relay_model.specs.Terms.{Terms}
use Rattle.relay_model.specs.World.{empty_world}
use Rattle.relay_facts.proofs.Moves.{step_moves}
use Rattle.relay_facts.proofs.RecordedFeeds.{FeedsInOrder, feeds_stay}
use Rattle.relay_laws.specs.Figures.{FeedsAddUp}
use Rattle.relay_laws.specs.Laws.{Always}
use Rattle.relay_laws.proofs.Runs.{run_keeps}

-- how many tokens a ring holds
pub ring_length : (size : ℕ) (feed : Feed) → (feed_figures size feed).waiting
    ≡ length feed.gained - feed.passed - (length feed.gained - feed.passed - size)
ring_length size feed =
    let unpassed = length-drop feed.passed feed.gained in
    length-drop (length (drop feed.passed feed.gained) - size) (drop feed.passed feed.gained)
    ∙ ap (λ n. n - (n - size)) unpassed

-- at most its room
pub within_ring : (size : ℕ) (feed : Feed) → (feed_figures size feed).waiting ≤ size
within_ring size feed = let all = ring_length size feed in omega (arith, all)

-- and at most what isn't passed
pub within_unpassed : (size : ℕ) (feed : Feed)
    → (feed_figures size feed).waiting ≤ length feed.gained - feed.passed
within_unpassed size feed = let all = ring_length size feed in omega (arith, all)

-- what was taken, waits and was overwritten is what was gained
add_up : (size : ℕ) (feed : Feed) → PassesInOrder feed
    → (feed_figures size feed).overwritten + (feed_figures size feed).waiting + feed.taken
    ≡ (feed_figures size feed).gained
add_up size feed is =
    let all = within_unpassed size feed in omega (arith, all, is.taken, is.passed)

-- so it is after each run
pub feeds_add_up : (w : Terms) → Always w FeedsAddUp
feeds_add_up w failures events outputs x ran f size =
    add_up size (x.state.feed f)
    (run_keeps w (λ y. FeedsInOrder y.state)
    (λ y event output z step.
    feeds_stay w y.state z.state (step_moves w y event output z step))
    (empty_world failures) (λ k. record { taken = le_refl 0; passed = le_refl 0 }) events outputs x
    ran f)
