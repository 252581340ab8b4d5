-- What waits in a history that is taken by name.
use Rattle.std.proofs.Common.{◌≡◌, ℕ, ◌-◌, zero, suc, List, [], ◌∷◌, length, slice_get, Option}
use Rattle.std.proofs.Common.{Some, None, option_and_then, refl, ap, subst, sym, arith}
use Rattle.std.proofs.lemmas.Option.{none-some, same_Some}
use Rattle.id_history.specs.History.{KeptFeed}
use Rattle.named_history.specs.Fitting.{feed_by}
use Rattle.named_history.specs.Naming.{feeds_by}
use Rattle.named_history.specs.Places.{place_of, under}
use Rattle.names_laws.proofs.Fits.{newest_wait}
use Rattle.names_laws.specs.Staying.{WaitedIn, Nothing, TheNewest}

-- What waits in a feed of which that of a place is kept waited there.
placed_waited : (kept : List KeptFeed) (k ring : ℕ) (found : Option KeptFeed)
    → slice_get kept k ≡ found → WaitedIn kept (feed_by ring found).waiting
placed_waited kept k ring None is = Nothing
placed_waited kept k ring (Some feed) is =
    subst (WaitedIn kept) (sym (newest_wait ring feed))
    (TheNewest k (length feed.waiting - ring) feed is)

-- So it did where there may be no place.
found_waited : (kept : List KeptFeed) (place : Option ℕ) (ring : ℕ)
    → WaitedIn kept (feed_by ring (option_and_then (slice_get kept) place)).waiting
found_waited kept None ring = Nothing
found_waited kept (Some k) ring = placed_waited kept k ring (slice_get kept k) refl

-- What waits in a feed waited in one that was kept, or nothing waits.
pub by_name_waited : (known : List (List ℕ)) (kept : List KeptFeed) (own : List (List ℕ))
    (rings : List ℕ) (i : ℕ) (new : KeptFeed)
    → slice_get (feeds_by known kept own rings) i ≡ Some new → WaitedIn kept new.waiting
by_name_waited known kept [] rings i new at = absurd (none-some new at)
by_name_waited known kept (name ∷ own) [] i new at = absurd (none-some new at)
by_name_waited known kept (name ∷ own) (ring ∷ rings) zero new at =
    subst (λ (feed : KeptFeed). WaitedIn kept feed.waiting)
    (same_Some (feed_by ring (under name known kept)) new at)
    (found_waited kept (place_of name known) ring)
by_name_waited known kept (name ∷ own) (ring ∷ rings) (suc i) new at =
    by_name_waited known kept own rings i new at

-- There are as many feeds as names, where each has its ring.
pub one_feed_a_name : (known : List (List ℕ)) (kept : List KeptFeed) (own : List (List ℕ))
    (rings : List ℕ) → length own ≡ length rings
    → length own ≡ length (feeds_by known kept own rings)
one_feed_a_name known kept [] rings long = refl
one_feed_a_name known kept (name ∷ own) [] long = long
one_feed_a_name known kept (name ∷ own) (ring ∷ rings) long =
    let more : length own ≡ length rings = omega (arith, long) in
    ap suc (one_feed_a_name known kept own rings more)
