-- The rings of feeds, in the words of the terms.
use Rattle.std.proofs.Common.{◌≡◌, ◌<◌, ℕ, suc, zero, List, [], ◌∷◌, refl}
use Rattle.std.proofs.Common.{arith}
use Rattle.std.specs.Prelude.{length, map, slice_get, slice_index}
use Rattle.relay_model.specs.Shares.{ring_of}
use Rattle.relay_model.specs.Terms.{FeedTerms}

-- the size of a feed's ring is that of its terms
pub ring_at : (feeds : List FeedTerms) (f : ℕ) → f < length feeds
    → slice_index (map (λ (feed : FeedTerms). feed.ring) feeds) f ≡ ring_of (slice_get feeds f)
ring_at [] f within = absurd (omega (arith, within))
ring_at (feed ∷ feeds) zero within = refl
ring_at (feed ∷ feeds) (suc f) within = ring_at feeds f (omega (arith, within))
