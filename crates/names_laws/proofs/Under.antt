-- What stands under a name.
use Rattle.std.proofs.Common.{◌≡◌, ◌≢◌, ℕ, zero, suc, List, [], ◌∷◌, length, map, zip, Option, Some}
use Rattle.std.proofs.Common.{None, true, false, refl, ap, ap₂, ◌∙◌, sym, arith, bytes_eq}
use Rattle.std.proofs.Common.{option_map, option_and_then, slice_get}
use Rattle.std.proofs.lemmas.Bool.{false_from_ne_true}
use Rattle.std.proofs.lemmas.Option.{none-some, same_Some, slice_get-map}
use Rattle.std.proofs.lemmas.Slice.Eq.{bytes_eq-Decides}
use Rattle.std.specs.List.{AllByRecursion, AllZip, IsDistinct}
use Rattle.id_history.specs.History.{Kept, KeptFeed}
use Rattle.named_history.specs.Fitting.{feed_by}
use Rattle.named_history.specs.Naming.{name_of, named, position_of, turn_from}
use Rattle.named_history.specs.Places.{first_place, place_of, under}
use Rattle.relay_names.specs.Names.{GroupNames, Names}
use Rattle.names_laws.specs.Staying.{AreGoneBefore, IsFirstAt, IsNowhere}

-- A name is its own.
pub same_name : (name : List ℕ) → bytes_eq name name ≡ true
same_name name = (bytes_eq-Decides name name).1 refl

-- Names that differ differ both ways.
pub other_name : (name other : List ℕ) → bytes_eq name other ≡ false → bytes_eq other name ≡ false
other_name name other apart =
    false_from_ne_true (bytes_eq other name) (λ same.
    let equal : other ≡ name = (bytes_eq-Decides other name).0 same in
    let both : bytes_eq name other ≡ true = (bytes_eq-Decides name other).1 (sym equal) in
    cc)

-- Names that aren't one are told apart.
pub told_apart : (name other : List ℕ) → other ≢ name → bytes_eq name other ≡ false
told_apart name other apart =
    false_from_ne_true (bytes_eq name other) (λ same.
    apart (sym ((bytes_eq-Decides name other).0 same)))

-- Where the first isn't it, what stands under a name stands there among the others.
pub skipped : {X : Type 0} (one : X) (all : List X) (found : Option ℕ)
    → option_and_then (slice_get (one ∷ all)) (option_map suc found)
    ≡ option_and_then (slice_get all) found
skipped one all None = refl
skipped one all (Some k) = refl

pub under_later : {X : Type 0} (name first : List ℕ) (names : List (List ℕ)) (one : X)
    (all : List X) → bytes_eq name first ≡ false
    → under name (first ∷ names) (one ∷ all) ≡ under name names all
under_later name first names one all apart = rw apart (skipped one all (place_of name names))

-- What holds place by place of two lists follows, where it does for each that passes.
pub zip_step : {X Y : Type 0} (P : X → Type 0) (R S : X → Y → Type 0)
    → ((x : X) (y : Y) → P x → R x y → S x y) → (xs : List X) (ys : List Y)
    → AllByRecursion P xs → AllZip R xs ys → AllZip S xs ys
zip_step P R S step [] [] each both = tt
zip_step P R S step [] (y ∷ ys) each both = both
zip_step P R S step (x ∷ xs) [] each both = both
zip_step P R S step (x ∷ xs) (y ∷ ys) each both =
    (step x y each.0 both.0, zip_step P R S step xs ys each.1 both.1)

-- Under each of names that are distinct stands what is in its place.
pub under_each : {X : Type 0} (names : List (List ℕ)) (all : List X) → IsDistinct bytes_eq names
    → length names ≡ length all
    → AllZip (λ name one. under name names all ≡ Some one) names all
unfolding IsDistinct
under_each [] [] distinct long = tt
under_each [] (one ∷ all) distinct long = omega (arith, long)
under_each (name ∷ names) [] distinct long = omega (arith, long)
under_each {X} (name ∷ names) (one ∷ all) distinct long =
    let long : length names ≡ length all = omega (arith, long) in (
      rw (same_name name) refl,
      zip_step (λ other. bytes_eq name other ≡ false)
          (λ other y. under other names all ≡ Some y)
          (λ other y. under other (name ∷ names) (one ∷ all) ≡ Some y)
          (λ other y apart there. under_later other name names one all (other_name name other apart)
          ∙ there) names all distinct.0 (under_each names all distinct.1 long),
    )

-- The place of a name is the first one where it is.
pub place_first : (name : List ℕ) (names : List (List ℕ)) (place : ℕ) → IsFirstAt name place names
    → place_of name names ≡ Some place
place_first name [] place is = absurd (none-some name is.there)
place_first name (first ∷ names) zero is =
    rw (ap (bytes_eq name) (same_Some first name is.there) ∙ same_name name) refl
place_first name (first ∷ names) (suc place) is =
    let apart : bytes_eq name first ≡ false =
    told_apart name first (λ same. is.first 0 (omega arith) (ap Some same)) in
    let rest : IsFirstAt name place names =
    record {
      there = is.there;
      first = λ before less at. is.first (suc before) (omega (arith, less)) at;
    } in
    rw apart (ap (option_map suc) (place_first name names place rest))

-- A name that is nowhere has no place.
pub place_none : (name : List ℕ) (names : List (List ℕ)) → IsNowhere name names
    → place_of name names ≡ None
place_none name [] is = refl
place_none name (first ∷ names) is =
    let apart : bytes_eq name first ≡ false =
    told_apart name first (λ same. is.none 0 (ap Some same)) in
    rw apart (ap (option_map suc)
    (place_none name names (record { none = λ place at. is.none (suc place) at })))

-- Where a name first is, there stands what is under it.
pub under_first : {X : Type 0} (name : List ℕ) (names : List (List ℕ)) (all : List X) (place : ℕ)
    → IsFirstAt name place names → under name names all ≡ slice_get all place
under_first name names all place is =
    ap (option_and_then (slice_get all)) (place_first name names place is)

-- Under a name that is nowhere stands nothing.
pub under_none : {X : Type 0} (name : List ℕ) (names : List (List ℕ)) (all : List X)
    → IsNowhere name names → under name names all ≡ None
under_none name names all is =
    ap (option_and_then (slice_get all)) (place_none name names is)

-- What stands at a place of two lists side by side.
pub zip_at : {X Y : Type 0} (xs : List X) (ys : List Y) (i : ℕ) (x : X) (y : Y)
    → slice_get xs i ≡ Some x → slice_get ys i ≡ Some y → slice_get (zip xs ys) i ≡ Some (x, y)
zip_at [] ys i x y left right = absurd (none-some x left)
zip_at (a ∷ xs) [] i x y left right = absurd (none-some y right)
zip_at {X} {Y} (a ∷ xs) (b ∷ ys) zero x y left right =
    ap₂ (λ (c : X) (d : Y). Some (c, d)) (same_Some a x left) (same_Some b y right)
zip_at (a ∷ xs) (b ∷ ys) (suc i) x y left right = zip_at xs ys i x y left right

-- What is made of what stands at a place stands at that place of what is made of all.
pub map_at : {X Y : Type 0} (f : X → Y) (xs : List X) (i : ℕ) (x : X) → slice_get xs i ≡ Some x
    → slice_get (map f xs) i ≡ Some (f x)
map_at f xs i x at = slice_get-map f xs i ∙ ap (option_map f) at

-- A feed stands where its name and its ring do.
pub feed_at : (known own : Names) (rings : List ℕ) (kept : Kept) (name : List ℕ) (i ring : ℕ)
    (found : Option KeptFeed) → slice_get own.feeds i ≡ Some name → slice_get rings i ≡ Some ring
    → under name known.feeds kept.feeds ≡ found
    → slice_get (named known own rings kept).feeds i ≡ Some (feed_by ring found)
feed_at known own rings kept name i ring found at size is =
    map_at (λ (one : List ℕ × ℕ). feed_by one.1 (under one.0 known.feeds kept.feeds))
    (zip own.feeds rings) i (name, ring) (zip_at own.feeds rings i name ring at size)
    ∙ ap (λ (o : Option KeptFeed). Some (feed_by ring o)) is

-- A group's position stands where the group does.
pub position_at : (known own : Names) (rings : List ℕ) (kept : Kept) (i : ℕ) (group : GroupNames)
    (found : Option (GroupNames × ℕ)) → slice_get own.groups i ≡ Some group
    → under group.name (map name_of known.groups) (zip known.groups kept.positions) ≡ found
    → slice_get (named known own rings kept).positions i ≡ Some (turn_from group.buffers found)
position_at known own rings kept i group found at is =
    map_at (position_of known.groups kept.positions) own.groups i group at
    ∙ ap (λ (o : Option (GroupNames × ℕ)). Some (turn_from group.buffers o)) is

-- Where the first of more is gone, the others are gone before one place less.
later_gone : (place : ℕ) (first : List ℕ) (names others : List (List ℕ))
    → AreGoneBefore (suc place) (first ∷ names) others → AreGoneBefore place names others
later_gone place first names others are =
    record {
      gone = λ before name less at. are.gone (suc before) name (omega (arith, less)) at;
    }

-- The first that is among the others gives its place,
pub first_there : (names others : List (List ℕ)) (turn place : ℕ) (name : List ℕ)
    → slice_get names turn ≡ Some name → AreGoneBefore turn names others
    → IsFirstAt name place others → first_place names others ≡ Some place
first_there [] others turn place name at gone is = absurd (none-some name at)
first_there (first ∷ names) others zero place name at gone is =
    let found : place_of first others ≡ Some place =
    ap (λ (n : List ℕ). place_of n others) (same_Some first name at)
    ∙ place_first name others place is in
    rw found refl
first_there (first ∷ names) others (suc turn) place name at gone is =
    let none : place_of first others ≡ None =
    place_none first others (gone.gone 0 first (omega arith) refl) in
    rw none (first_there names others turn place name at (later_gone turn first names others gone)
    is)

-- and where none is, there is none.
pub first_none : (names others : List (List ℕ)) → AreGoneBefore (length names) names others
    → first_place names others ≡ None
first_none [] others gone = refl
first_none (first ∷ names) others gone =
    let none : place_of first others ≡ None =
    place_none first others (gone.gone 0 first (omega arith) refl) in
    rw none (first_none names others (later_gone (length names) first names others gone))
