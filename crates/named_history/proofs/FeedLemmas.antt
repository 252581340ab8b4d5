-- Feeds that are taken out one after the other.
use Rattle.std.proofs.Common.{◌≡◌, ◌≢◌, ◌⊎◌, inl, inr, ℕ, ◌+◌, ◌-◌, ◌<◌, ◌≤◌, zero, suc, min}
use Rattle.std.proofs.Common.{List, []}
use Rattle.std.proofs.Common.{◌∷◌, ◌++◌, length, take, drop, map, set, get_or, slice_get, Option}
use Rattle.std.proofs.Common.{Some, None, IsSome, is_some, option_and_then, option_map, Bool, true}
use Rattle.std.proofs.Common.{false, cond, bytes_eq, refl, ap, ap₂, subst, ◌∙◌, sym, arith}
use Rattle.std.proofs.Common.{append_assoc}
use Rattle.std.proofs.lemmas.Bool.{cond-false, false≢true, ne_eqb}
use Rattle.std.proofs.lemmas.List.{at_drop_more, take_rest}
use Rattle.std.proofs.lemmas.Option.{none-some, same_Some, slice_get-map}
use Rattle.std.proofs.lemmas.Slice.Eq.{bytes_eq-Decides}
use Rattle.id_history.specs.History.{KeptFeed}
use Rattle.named_history.specs.Fitting.{feed_by, fitted, is_fit, newest, waiting_alone}
use Rattle.named_history.specs.Naming.{feeds_by}
use Rattle.named_history.specs.Places.{place_of, under}
use Rattle.news_terms.specs.Token.{Token}

-- A feed whose ring doesn't hold what waits as it is is left with the newest.
pub fitted_otherwise : (ring : ℕ) (feed : KeptFeed) (room passed : ℕ) (waiting : List Token)
    → length feed.waiting ≢ room → room ≡ min ring (feed.gained - feed.passed)
    → waiting ≡ newest ring feed.waiting → passed ≡ feed.gained - length waiting
    → record feed { passed = passed; waiting = waiting } ≡ fitted ring feed
fitted_otherwise ring feed room passed waiting other room_is waiting_is passed_is =
    ap (λ (n : ℕ). record feed { passed = n; waiting = waiting }) passed_is
    ∙ ap (λ (tokens : List Token). waiting_alone tokens feed) waiting_is
    ∙ sym (cond-false (is_fit ring feed) feed (waiting_alone (newest ring feed.waiting) feed)
    (ne_eqb (length feed.waiting) (min ring (feed.gained - feed.passed))
    (λ same. other (same ∙ sym room_is))))

-- What stands at another place stays where one is set.
set_other : {X : Type 0} (xs : List X) (p q : ℕ) (x : X) → q ≢ p
    → slice_get (set xs p x) q ≡ slice_get xs q
set_other [] p q x other = refl
set_other (y ∷ xs) zero zero x other = absurd (other refl)
set_other (y ∷ xs) zero (suc q) x other = refl
set_other (y ∷ xs) (suc p) zero x other = refl
set_other (y ∷ xs) (suc p) (suc q) x other =
    set_other xs p q x (λ same. other (ap suc same))

-- At the first place of a name the name stands.
chosen_at : (here : Bool) (found : Option ℕ) (k : ℕ) (name first : List ℕ)
    (names : List (List ℕ)) → (here ≡ true → name ≡ first)
    → ((j : ℕ) → found ≡ Some j → slice_get names j ≡ Some name)
    → cond here (Some 0) (option_map suc found) ≡ Some k
    → slice_get (first ∷ names) k ≡ Some name
chosen_at true found k name first names same each is =
    subst (λ (n : ℕ). slice_get (first ∷ names) n ≡ Some name) (same_Some 0 k is)
    (ap Some (sym (same refl)))
chosen_at false None k name first names same each is = absurd (none-some k is)
chosen_at false (Some j) k name first names same each is =
    subst (λ (n : ℕ). slice_get (first ∷ names) n ≡ Some name) (same_Some (suc j) k is)
    (each j refl)

name_at : (name : List ℕ) (names : List (List ℕ)) (k : ℕ) → place_of name names ≡ Some k
    → slice_get names k ≡ Some name
name_at name [] k is = absurd (none-some k is)
name_at name (first ∷ names) k is =
    chosen_at (bytes_eq name first) (place_of name names) k name first names
    ((bytes_eq-Decides name first).0) (name_at name names) is

-- So two names of one place are one.
one_name : (name other : List ℕ) (names : List (List ℕ)) (k : ℕ)
    → place_of name names ≡ Some k → place_of other names ≡ Some k → name ≡ other
one_name name other names k is also =
    same_Some name other (sym (name_at name names k is) ∙ name_at other names k also)

-- What stands at a place that is found stays, where that isn't the place that is set.
found_stays : {X Y : Type 0} (f : X → Y) (left : List X) (place : ℕ) (x : X) (found : Option ℕ)
    → ((q : ℕ) → found ≡ Some q → q ≢ place)
    → option_and_then (slice_get (map f (set left place x))) found
    ≡ option_and_then (slice_get (map f left)) found
found_stays f left place x None apart = refl
found_stays f left place x (Some q) apart =
    slice_get-map f (set left place x) q
    ∙ ap (option_map f) (set_other left place q x (apart q refl))
    ∙ sym (slice_get-map f left q)

-- Where a name's place is set and the name isn't a later one, what stands under each later one
-- stays.
pub under_later : {X Y : Type 0} (f : X → Y) (known later : List (List ℕ)) (name : List ℕ)
    (left : List X) (place : ℕ) (x : X) → place_of name known ≡ Some place
    → is_some (place_of name later) ≡ false → (other : List ℕ) → IsSome (place_of other later)
    → under other known (map f (set left place x)) ≡ under other known (map f left)
under_later f known later name left place x is none other some =
    found_stays f left place x (place_of other known) (λ q at same.
    let equal : name ≡ other =
    one_name name other known place is (at ∙ ap Some same) in
    absurd (false≢true (sym none ∙ ap (λ n. is_some (place_of n later)) equal ∙ some)))

-- The first of names has a place,
some_here : (name : List ℕ) (names : List (List ℕ)) → IsSome (place_of name (name ∷ names))
some_here name names = rw ((bytes_eq-Decides name name).1 refl) refl

-- and what has one among the others has one.
some_chosen : (here : Bool) (found : Option ℕ) → IsSome found
    → IsSome (cond here (Some 0) (option_map suc found))
some_chosen true found some = refl
some_chosen false None some = some
some_chosen false (Some j) some = refl

-- Feeds are as they were, where under each of their names the same is kept.
feeds_alike : (known : List (List ℕ)) (left next : List KeptFeed) (own : List (List ℕ))
    (rings : List ℕ) → ((other : List ℕ) → IsSome (place_of other own)
    → under other known next ≡ under other known left)
    → feeds_by known next own rings ≡ feeds_by known left own rings
feeds_alike known left next [] rings alike = refl
feeds_alike known left next (name ∷ own) [] alike = refl
feeds_alike known left next (name ∷ own) (ring ∷ rings) alike =
    ap₂ (λ (one : KeptFeed) (all : List KeptFeed). one ∷ all)
    (ap (feed_by ring) (alike name (some_here name own)))
    (feeds_alike known left next own rings (λ other some.
    alike other (some_chosen (bytes_eq other name) (place_of other own) some)))

-- One more feed is made of what is left.
pub feeds_more : (known own : List (List ℕ)) (rings : List ℕ) (left next made : List KeptFeed)
    (new : KeptFeed) (place : ℕ) (name d : List ℕ) (ring : ℕ) → place < length own
    → place < length rings → name ≡ get_or own place d → ring ≡ get_or rings place 0
    → new ≡ feed_by ring (under name known left)
    → ((other : List ℕ)
    → IsSome (place_of other (take (length own - (place + 1)) (drop (place + 1) own)))
    → under other known next ≡ under other known left)
    → (made ++ new ∷ []) ++ feeds_by known next (drop (place + 1) own) (drop (place + 1) rings)
    ≡ made ++ feeds_by known left (drop place own) (drop place rings)
feeds_more known own rings left next made new place name d ring less within name_is ring_is new_is
    alike =
    let later = drop (place + 1) own in
    let sizes = drop (place + 1) rings in
    let same : feeds_by known next later sizes ≡ feeds_by known left later sizes =
    feeds_alike known left next later sizes (λ other some.
    alike other (subst (λ (names : List (List ℕ)). IsSome (place_of other names))
    (sym (take_rest own (place + 1))) some)) in
    let first : new ≡ feed_by (get_or rings place 0) (under (get_or own place d) known left) =
    new_is ∙ ap₂ (λ (r : ℕ) (n : List ℕ). feed_by r (under n known left)) ring_is name_is in
    append_assoc made (new ∷ []) (feeds_by known next later sizes)
    ∙ ap (λ (feeds : List KeptFeed). made ++ feeds)
    (ap₂ (λ (one : KeptFeed) (all : List KeptFeed). one ∷ all) first same
    ∙ sym (at_drop_more (λ (names : List (List ℕ)). feeds_by known left names (drop place rings))
    own place d less
    ∙ at_drop_more (λ (rs : List ℕ). feeds_by known left (get_or own place d ∷ later) rs) rings
    place 0 within))

-- Where no name or no ring is left, no feed is made.
pub feeds_done : (known : List (List ℕ)) (left : List KeptFeed) (own : List (List ℕ))
    (rings : List ℕ) → ((length own ≤ 0) ⊎ (length rings ≤ 0))
    → feeds_by known left own rings ≡ []
feeds_done known left [] rings none = refl
feeds_done known left (name ∷ own) [] none = refl
feeds_done known left (name ∷ own) (ring ∷ rings) none =
    let some : ⊥ = elim none [ inl h ↦ omega (arith, h) | inr h ↦ omega (arith, h) ] in
    absurd some
