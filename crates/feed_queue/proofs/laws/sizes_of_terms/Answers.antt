use Rattle.std.proofs.Common.{◌≡◌, ◌∙◌, ap, sym, refl, ℕ, List, [], ◌∷◌, map, zero, suc}
use Rattle.std.specs.Prelude.{slice_get, slice_index}
use Rattle.relay_conf.specs.declared.relay.Feed.{Feed}
use Rattle.relay_model.specs.Shares.{ring_of}
use Rattle.feed_queue.specs.Feeds.{ring_size}
use Rattle.feed_queue.specs.Permission.{feed_view}
use Rattle.feed_queue.proofs.laws.sizes_of_terms.Goals as goal

-- feed by feed
size-view : (feeds : List Feed) (f : ℕ)
    → slice_index (map ring_size feeds) f ≡ ring_of (slice_get (map feed_view feeds) f)
size-view [] f = refl
size-view (feed ∷ feeds) zero = refl
size-view (feed ∷ feeds) (suc f) = size-view feeds f

-- those of the configuration are those of the terms
pub returns : goal.returns
returns c w peers feeds has f =
    size-view feeds f ∙ ap (λ xs. ring_of (slice_get xs f)) (sym has.each)
