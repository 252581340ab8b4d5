-- The same names change nothing, and what comes out holds.
use Rattle.std.proofs.Common.{◌≡◌, ℕ, ◌<◌, zero, suc, List, [], ◌∷◌, length, map, zip, refl, ap}
use Rattle.std.proofs.Common.{ap₂, ◌∙◌, arith, Option, Some, None, true, false, bytes_eq, slice_get}
use Rattle.std.proofs.Common.{option_map, option_and_then, get_or, nat_lt, subst, ◌==◌}
use Rattle.std.proofs.lemmas.Bool.{and_parts, eqb-true, false≢true, ltb-true}
use Rattle.std.proofs.lemmas.Option.{none-some, same_Some, slice_get-get_or}
use Rattle.std.specs.List.{AllByRecursion, AllZip, IsDistinct}
use Rattle.id_history.specs.Conditions.{are_positions}
use Rattle.id_history.specs.History.{FeedHolds, Kept, KeptFeed, RingHolds}
use Rattle.named_history.specs.Fitting.{feed_by}
use Rattle.named_history.specs.Naming.{buffer_count, feeds_by, is_of, name_of, named, positions_by}
use Rattle.named_history.specs.Naming.{turn_by, turn_from}
use Rattle.named_history.specs.Places.{place_of, under}
use Rattle.relay_names.specs.Names.{GroupNames, Names}
use Rattle.names_laws.specs.Staying.{AreDistinct, HasDistinctBuffers}
use Rattle.names_laws.proofs.Fits.{fit_same, kept_holds}
use Rattle.names_laws.proofs.Turns.{turn_there}
use Rattle.names_laws.proofs.Under.{other_name, same_name, under_each}

-- What holds of each holds of what stands at a place.
each_at : {X : Type 0} (P : X → Type 0) (xs : List X) (i : ℕ) (x : X) → AllByRecursion P xs
    → slice_get xs i ≡ Some x → P x
each_at P [] i x each at = absurd (none-some x at)
each_at P (first ∷ xs) zero x each at = subst P (same_Some first x at) each.0
each_at P (first ∷ xs) (suc i) x each at = each_at P xs i x each.1 at

-- Of distinct names each has its own place.
own_place : (names : List (List ℕ)) (place : ℕ) (name : List ℕ) → IsDistinct bytes_eq names
    → slice_get names place ≡ Some name → place_of name names ≡ Some place
unfolding IsDistinct
own_place [] place name distinct at = absurd (none-some name at)
own_place (first ∷ names) zero name distinct at =
    rw (ap (bytes_eq name) (same_Some first name at) ∙ same_name name) refl
own_place (first ∷ names) (suc place) name distinct at =
    let apart : bytes_eq name first ≡ false =
    other_name first name
    (each_at (λ other. bytes_eq first other ≡ false) names place name distinct.0 at) in
    rw apart (ap (option_map suc) (own_place names place name distinct.1 at))

-- A group with the same buffers goes on where it was.
turn_same : (buffers : List (List ℕ)) (position : ℕ) → IsDistinct bytes_eq buffers
    → position < length buffers → turn_by buffers position buffers ≡ position
turn_same buffers position distinct less =
    let buffer = get_or buffers position [] in
    let at : slice_get buffers position ≡ Some buffer =
    slice_get-get_or buffers position [] less in
    turn_there buffers position buffers buffer position at
    (own_place buffers position buffer distinct at)

-- So do all groups, where each finds its own under its name.
positions_same : (found : List ℕ → Option (GroupNames × ℕ)) (groups : List GroupNames)
    (positions : List ℕ)
    → AllZip (λ name one. found name ≡ Some one) (map name_of groups) (zip groups positions)
    → are_positions positions (map buffer_count groups) ≡ true
    → AllByRecursion HasDistinctBuffers groups
    → map (λ (group : GroupNames). turn_from group.buffers (found group.name)) groups ≡ positions
positions_same found [] [] each within distinct = refl
positions_same found [] (position ∷ positions) each within distinct = absurd (false≢true within)
positions_same found (group ∷ groups) [] each within distinct = absurd (false≢true within)
positions_same found (group ∷ groups) (position ∷ positions) each within distinct =
    let parts =
    and_parts (nat_lt position (buffer_count group))
    (are_positions positions (map buffer_count groups)) within in
    ap₂ (λ (p : ℕ) (ps : List ℕ). p ∷ ps)
    (ap (turn_from group.buffers) each.0
    ∙ turn_same group.buffers position distinct.0 (ltb-true position (buffer_count group) parts.0))
    (positions_same found groups positions each.1 parts.1 distinct.1)

-- Each group has one position.
one_position : (groups : List GroupNames) (positions : List ℕ)
    → are_positions positions (map buffer_count groups) ≡ true
    → length (map name_of groups) ≡ length (zip groups positions)
one_position [] positions within = refl
one_position (group ∷ groups) [] within = absurd (false≢true within)
one_position (group ∷ groups) (position ∷ positions) within =
    let parts =
    and_parts (nat_lt position (buffer_count group))
    (are_positions positions (map buffer_count groups)) within in
    ap suc (one_position groups positions parts.1)

-- Feeds stay, where each finds its own under its name and its ring holds what waits.
feeds_same : (found : List ℕ → Option KeptFeed) (names : List (List ℕ)) (kept : List KeptFeed)
    (rings : List ℕ) → AllZip (λ name one. found name ≡ Some one) names kept
    → AllZip RingHolds kept rings
    → map (λ (one : List ℕ × ℕ). feed_by one.1 (found one.0)) (zip names rings) ≡ kept
feeds_same found [] [] rings each holds = refl
feeds_same found [] (feed ∷ kept) rings each holds = absurd each
feeds_same found (name ∷ names) [] rings each holds = absurd each
feeds_same found (name ∷ names) (feed ∷ kept) [] each holds = absurd holds
feeds_same found (name ∷ names) (feed ∷ kept) (ring ∷ rings) each holds =
    ap₂ (λ (one : KeptFeed) (all : List KeptFeed). one ∷ all)
    (ap (feed_by ring) each.0 ∙ fit_same ring feed holds.0)
    (feeds_same found names kept rings each.1 holds.1)

-- The same names change nothing.
pub same_names : (own : Names) (rings : List ℕ) (kept : Kept) → is_of own kept ≡ true
    → AllZip RingHolds kept.feeds rings → AreDistinct own → named own own rings kept ≡ kept
same_names own rings kept of holds distinct =
    let parts =
    and_parts (length own.feeds == length kept.feeds)
    (are_positions kept.positions (map buffer_count own.groups)) of in
    let feeds : feeds_by own.feeds kept.feeds own.feeds rings ≡ kept.feeds =
    feeds_same (λ name. under name own.feeds kept.feeds) own.feeds kept.feeds rings
    (under_each own.feeds kept.feeds distinct.feeds
    (eqb-true (length own.feeds) (length kept.feeds) parts.0)) holds in
    let groups = map name_of own.groups in
    let pairs = zip own.groups kept.positions in
    let positions : positions_by own.groups kept.positions own.groups ≡ kept.positions =
    positions_same (λ name. under name groups pairs) own.groups kept.positions
    (under_each groups pairs distinct.groups (one_position own.groups kept.positions parts.1))
    parts.1 distinct.buffers in
    ap₂ (λ (ps : List ℕ) (fs : List KeptFeed). record kept { positions = ps; feeds = fs }) positions
    feeds

-- What stands at a place beside another is beside it.
beside_at : {X Y : Type 0} (R : X → Y → Type 0) (xs : List X) (ys : List Y) (i : ℕ) (x : X)
    → AllZip R xs ys → slice_get xs i ≡ Some x → (y : Y) × R x y
beside_at R [] ys i x both at = absurd (none-some x at)
beside_at R (first ∷ xs) [] i x both at = absurd both
beside_at R (first ∷ xs) (y ∷ ys) zero x both at =
    (y, subst (λ one. R one y) (same_Some first x at) both.0)
beside_at R (first ∷ xs) (y ∷ ys) (suc i) x both at = beside_at R xs ys i x both.1 at

-- What is found at a place held.
found_held : (buffers : ℕ) (kept : List KeptFeed) (old : List ℕ) (place : Option ℕ)
    (feed : KeptFeed) → AllZip (FeedHolds buffers) kept old
    → option_and_then (slice_get kept) place ≡ Some feed
    → (ring : ℕ) × FeedHolds buffers feed ring
found_held buffers kept old None feed held is = absurd (none-some feed is)
found_held buffers kept old (Some k) feed held is =
    beside_at (FeedHolds buffers) kept old k feed held is

-- Feeds hold by name, where those that were kept held with some rings.
pub feeds_hold_by : (buffers : ℕ) (known : List (List ℕ)) (kept : List KeptFeed) (old : List ℕ)
    → AllZip (FeedHolds buffers) kept old → (own : List (List ℕ)) (rings : List ℕ)
    → length own ≡ length rings
    → AllZip (FeedHolds buffers) (feeds_by known kept own rings) rings
feeds_hold_by buffers known kept old held [] [] long = tt
feeds_hold_by buffers known kept old held [] (ring ∷ rings) long = omega (arith, long)
feeds_hold_by buffers known kept old held (name ∷ own) [] long = omega (arith, long)
feeds_hold_by buffers known kept old held (name ∷ own) (ring ∷ rings) long =
    let long : length own ≡ length rings = omega (arith, long) in (
      kept_holds buffers ring (under name known kept)
          (λ feed is. found_held buffers kept old (place_of name known) feed held is),
      feeds_hold_by buffers known kept old held own rings long,
    )
