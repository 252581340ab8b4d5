-- The tests are true exactly where the conditions hold.
use Rattle.std.proofs.Common.{◌≡◌, ap, refl, ℕ, ◌<◌, ◌^◌, ◌-◌, Bool, true, false, ◌&&◌}
use Rattle.std.proofs.Common.{List, [], ◌∷◌, length, map, min, Option, None, Some, ltb, leb, eqb}
use Rattle.std.proofs.Common.{Ordering, Less, Equal, Greater}
use Rattle.std.proofs.lemmas.Bool.{and_parts, eqb-true, eq-eqb, ltb-true, lt-ltb, leb-true, le-leb}
use Rattle.std.proofs.lemmas.Bool.{false≢true}
use Rattle.std.proofs.lemmas.Cmp.{nat_list_cmp_total}
use Rattle.std.specs.Cmp.Lexicographic.{slice_cmp}
use Rattle.std.specs.List.{AllByRecursion, AllZip}
use Rattle.std.specs.List.Sorted.{IsStrictlySortedBy}
use Rattle.std.specs.Ordering.{nat_cmp, is_lt}
use Rattle.std.specs.Prelude.{IfSome}
use Rattle.news_terms.specs.Token.{Token}
use Rattle.relay_model.specs.Terms.{last_moment}
use Rattle.id_history.specs.Conditions.{are_positions, are_there, feed_holds, feeds_hold}
use Rattle.id_history.specs.Conditions.{is_there}
use Rattle.id_history.specs.Conditions.{id_holds, ids_hold, rise, holds}
use Rattle.id_history.specs.History.{KeptId, KeptFeed, Kept, Setting, IsThere, FeedHolds}
use Rattle.id_history.specs.History.{IdHolds, Rises, Holds}

-- a conjunction of what holds holds
pub both : (a b : Bool) → a ≡ true → b ≡ true → (a && b) ≡ true
both true b first second = second
both false b first second = first

-- positions that pass are below the numbers of their groups
positions_hold : (positions groups : List ℕ) → are_positions positions groups ≡ true
    → AllZip (λ position m. position < m) positions groups
positions_hold [] [] h = tt
positions_hold [] (m ∷ groups) h = absurd (false≢true h)
positions_hold (position ∷ positions) [] h = absurd (false≢true h)
positions_hold (position ∷ positions) (m ∷ groups) h =
    let parts = and_parts (ltb position m) (are_positions positions groups) h in
    (ltb-true position m parts.0, positions_hold positions groups parts.1)

-- positions below the numbers of their groups pass
positions_pass : (positions groups : List ℕ)
    → AllZip (λ position m. position < m) positions groups
    → are_positions positions groups ≡ true
positions_pass [] [] h = refl
positions_pass [] (m ∷ groups) h = absurd h
positions_pass (position ∷ positions) [] h = absurd h
positions_pass (position ∷ positions) (m ∷ groups) h =
    both (ltb position m) (are_positions positions groups) (lt-ltb position m h.0)
    (positions_pass positions groups h.1)

-- tokens that pass name buffers
there_holds : (buffers : ℕ) (tokens : List Token) → are_there buffers tokens ≡ true
    → AllByRecursion (IsThere buffers) tokens
there_holds buffers [] h = tt
there_holds buffers (token ∷ tokens) h =
    let parts = and_parts (ltb token.buffer buffers) (are_there buffers tokens) h in
    (ltb-true token.buffer buffers parts.0, there_holds buffers tokens parts.1)

-- tokens that name buffers pass
there_passes : (buffers : ℕ) (tokens : List Token) → AllByRecursion (IsThere buffers) tokens
    → are_there buffers tokens ≡ true
there_passes buffers [] h = refl
there_passes buffers (token ∷ tokens) h =
    both (ltb token.buffer buffers) (are_there buffers tokens) (lt-ltb token.buffer buffers h.0)
    (there_passes buffers tokens h.1)

-- a feed that passes holds
feed_is : (buffers : ℕ) (feed : KeptFeed) (ring : ℕ) → feed_holds buffers feed ring ≡ true
    → FeedHolds buffers feed ring
feed_is buffers feed ring h =
    let taken = leb feed.taken feed.passed in
    let passed = leb feed.passed feed.gained in
    let gained = leb feed.gained (2 ^ 62) in
    let waits = eqb (length feed.waiting) (min ring (feed.gained - feed.passed)) in
    let d = and_parts (((taken && passed) && gained) && waits) (are_there buffers feed.waiting) h in
    let c = and_parts ((taken && passed) && gained) waits d.0 in
    let b = and_parts (taken && passed) gained c.0 in
    let a = and_parts taken passed b.0 in
    record {
      counts = record {
        taken = leb-true feed.taken feed.passed a.0;
        passed = leb-true feed.passed feed.gained a.1;
        waiting = eqb-true (length feed.waiting) (min ring (feed.gained - feed.passed)) c.1;
      };
      gained = leb-true feed.gained (2 ^ 62) b.1;
      tokens = there_holds buffers feed.waiting d.1;
    }

-- a feed that holds passes
feed_passes : (buffers : ℕ) (feed : KeptFeed) (ring : ℕ) → FeedHolds buffers feed ring
    → feed_holds buffers feed ring ≡ true
feed_passes buffers feed ring h =
    let taken = leb feed.taken feed.passed in
    let passed = leb feed.passed feed.gained in
    let gained = leb feed.gained (2 ^ 62) in
    let waits = eqb (length feed.waiting) (min ring (feed.gained - feed.passed)) in
    both (((taken && passed) && gained) && waits) (are_there buffers feed.waiting)
    (both ((taken && passed) && gained) waits
    (both (taken && passed) gained
    (both taken passed (le-leb feed.taken feed.passed h.counts.taken)
    (le-leb feed.passed feed.gained h.counts.passed))
    (le-leb feed.gained (2 ^ 62) h.gained))
    (eq-eqb (length feed.waiting) (min ring (feed.gained - feed.passed)) h.counts.waiting))
    (there_passes buffers feed.waiting h.tokens)

-- feeds that pass hold
feeds_are : (buffers : ℕ) (feeds : List KeptFeed) (rings : List ℕ)
    → feeds_hold buffers feeds rings ≡ true → AllZip (FeedHolds buffers) feeds rings
feeds_are buffers [] [] h = tt
feeds_are buffers [] (ring ∷ rings) h = absurd (false≢true h)
feeds_are buffers (feed ∷ feeds) [] h = absurd (false≢true h)
feeds_are buffers (feed ∷ feeds) (ring ∷ rings) h =
    let parts = and_parts (feed_holds buffers feed ring) (feeds_hold buffers feeds rings) h in
    (feed_is buffers feed ring parts.0, feeds_are buffers feeds rings parts.1)

-- feeds that hold pass
feeds_pass : (buffers : ℕ) (feeds : List KeptFeed) (rings : List ℕ)
    → AllZip (FeedHolds buffers) feeds rings → feeds_hold buffers feeds rings ≡ true
feeds_pass buffers [] [] h = refl
feeds_pass buffers [] (ring ∷ rings) h = absurd h
feeds_pass buffers (feed ∷ feeds) [] h = absurd h
feeds_pass buffers (feed ∷ feeds) (ring ∷ rings) h =
    both (feed_holds buffers feed ring) (feeds_hold buffers feeds rings)
    (feed_passes buffers feed ring h.0) (feeds_pass buffers feeds rings h.1)

-- a token that passes names a buffer
token_is : (buffers : ℕ) (token : Option Token) → is_there buffers token ≡ true
    → IfSome token (IsThere buffers)
token_is buffers None h = tt
token_is buffers (Some token) h = ltb-true token.buffer buffers h

-- a token that names a buffer passes
token_passes : (buffers : ℕ) (token : Option Token) → IfSome token (IsThere buffers)
    → is_there buffers token ≡ true
token_passes buffers None h = refl
token_passes buffers (Some token) h = lt-ltb token.buffer buffers h

-- message-ids that pass hold
ids_are : (buffers : ℕ) (ids : List KeptId) → ids_hold buffers ids ≡ true
    → AllByRecursion (IdHolds buffers) ids
ids_are buffers [] h = tt
ids_are buffers (one ∷ ids) h =
    let parts = and_parts (id_holds buffers one) (ids_hold buffers ids) h in
    let own = and_parts (leb one.moment last_moment) (is_there buffers one.token) parts.0 in (
      record {
        token = token_is buffers one.token own.1;
        moment = leb-true one.moment last_moment own.0;
      },
      ids_are buffers ids parts.1,
    )

-- message-ids that hold pass
ids_pass : (buffers : ℕ) (ids : List KeptId) → AllByRecursion (IdHolds buffers) ids
    → ids_hold buffers ids ≡ true
ids_pass buffers [] h = refl
ids_pass buffers (one ∷ ids) h =
    both (id_holds buffers one) (ids_hold buffers ids)
    (both (leb one.moment last_moment) (is_there buffers one.token)
    (le-leb one.moment last_moment h.0.moment) (token_passes buffers one.token h.0.token))
    (ids_pass buffers ids h.1)

-- what passes as below is below
is_less : (r : Ordering) → is_lt r ≡ true → r ≡ Less
is_less Less h = refl
is_less Equal h = absurd (false≢true h)
is_less Greater h = absurd (false≢true h)

-- what is below one that is below others is below them
below_others : (x y : List ℕ) (others : List (List ℕ)) → slice_cmp nat_cmp x y ≡ Less
    → AllByRecursion (λ z. slice_cmp nat_cmp y z ≡ Less) others
    → AllByRecursion (λ z. slice_cmp nat_cmp x z ≡ Less) others
below_others x y [] first others = tt
below_others x y (z ∷ zs) first others =
    (nat_list_cmp_total.trans x y z first others.0, below_others x y zs first others.1)

-- message-ids of which each comes before the next rise
rise_rises : (ids : List KeptId) → rise ids ≡ true → Rises ids
unfolding IsStrictlySortedBy
rise_rises [] h = tt
rise_rises (one ∷ []) h = (tt, tt)
rise_rises (one ∷ next ∷ ids) h =
    let parts = and_parts (is_lt (slice_cmp nat_cmp one.id next.id)) (rise (next ∷ ids)) h in
    let later = rise_rises (next ∷ ids) parts.1 in
    let first = is_less (slice_cmp nat_cmp one.id next.id) parts.0 in (
      (first, below_others one.id next.id (map (λ (k : KeptId). k.id) ids) first later.0),
      later,
    )

-- of message-ids that rise each comes before the next
rise_passes : (ids : List KeptId) → Rises ids → rise ids ≡ true
unfolding IsStrictlySortedBy
rise_passes [] h = refl
rise_passes (one ∷ []) h = refl
rise_passes (one ∷ next ∷ ids) h =
    both (is_lt (slice_cmp nat_cmp one.id next.id)) (rise (next ∷ ids)) (ap is_lt h.0.0)
    (rise_passes (next ∷ ids) h.1)

-- a history that passes the tests holds
pub Holds-from_tests : (setting : Setting) (kept : Kept) → holds setting kept ≡ true
    → Holds setting kept
Holds-from_tests setting kept h =
    let positions = are_positions kept.positions setting.groups in
    let feeds = feeds_hold setting.buffers kept.feeds setting.rings in
    let ids = ids_hold setting.buffers kept.ids in
    let c = and_parts ((positions && feeds) && ids) (rise kept.ids) h in
    let b = and_parts (positions && feeds) ids c.0 in
    let a = and_parts positions feeds b.0 in
    record {
      positions = positions_hold kept.positions setting.groups a.0;
      feeds = feeds_are setting.buffers kept.feeds setting.rings a.1;
      ids = ids_are setting.buffers kept.ids b.1;
      rises = rise_rises kept.ids c.1;
    }

-- a history that holds passes the tests
pub tests_pass : (setting : Setting) (kept : Kept) → Holds setting kept
    → holds setting kept ≡ true
tests_pass setting kept h =
    let positions = are_positions kept.positions setting.groups in
    let feeds = feeds_hold setting.buffers kept.feeds setting.rings in
    let ids = ids_hold setting.buffers kept.ids in
    both ((positions && feeds) && ids) (rise kept.ids)
    (both (positions && feeds) ids
    (both positions feeds (positions_pass kept.positions setting.groups h.positions)
    (feeds_pass setting.buffers kept.feeds setting.rings h.feeds))
    (ids_pass setting.buffers kept.ids h.ids))
    (rise_passes kept.ids h.rises)
