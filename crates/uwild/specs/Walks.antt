-- The walk over a pattern and a name. No public contract cites it.
use Rattle.std.specs.Prelude.{◌≡◌, ◌==◌, ◌||◌, ◌+◌, ◌*◌, ◌≤◌, ℕ, Bool, true, false, not, IsTrue}
use Rattle.std.specs.Prelude.{IsFalse, List, [], ◌∷◌, ◌++◌, length, map, Option, None, Some}
use Rattle.std.specs.List.{list_all}
use Rattle.news_terms.specs.Pattern.{Item, Star, AnyOctet, Literal, Escaped, OneOf, NoneOf, matches}
use Rattle.news_terms.specs.Pattern.{is_of_set}
use Rattle.uwild.specs.declared.matching.Rest.{Rest}
use Rattle.uwild.specs.declared.matching.Step.{Step}
use Rattle.uwild.specs.declared.matching.Step.TheVariants.{Matched, BehindStar, BehindOctet, Stuck}
use Rattle.uwild.specs.Expression.{item_view}

-- a part is a star
abbrev pub is_star : Item → Bool
is_star Star = true
is_star AnyOctet = false
is_star (Literal _) = false
is_star (Escaped _) = false
is_star (OneOf _) = false
is_star (NoneOf _) = false

-- a part that is no star takes the octet
abbrev pub takes : Item → ℕ → Bool
takes Star c = false
takes AnyOctet c = true
takes (Literal x) c = c == x
takes (Escaped x) c = c == x
takes (OneOf set) c = is_of_set set c
takes (NoneOf set) c = not (is_of_set set c)

-- the parts that are left
abbrev pub items_left : Rest → List Item
items_left r = map item_view r.items.now

-- what is left of the pattern matches what is left of the name
abbrev pub goes : Rest → Bool
goes r = matches (items_left r) r.name.now

-- behind a star the other parts and the whole name are left
pub record IsBehindStar (at rest : Rest) : Type 0 where
  pub items : items_left at ≡ Star ∷ items_left rest
  pub name : rest.name.now ≡ at.name.now

-- a part that is no star took an octet, and the others are left
pub record IsBehindOctet (at rest : Rest) : Type 0 where
  pub item : Item
  pub octet : ℕ
  pub no_star : IsFalse (is_star item)
  pub items : items_left at ≡ item ∷ items_left rest
  pub name : at.name.now ≡ octet ∷ rest.name.now
  pub same : goes at ≡ goes rest

-- the step is the one that the walk asks for
abbrev pub StepGives : Rest → Step → Type 0
StepGives at Matched = goes at ≡ true
StepGives at (BehindStar rest) = IsBehindStar at rest
StepGives at (BehindOctet rest) = IsBehindOctet at rest
StepGives at Stuck = goes at ≡ false

-- the star has one octet more
pub record IsFurther (star rest : Rest) : Type 0 where
  pub octet : ℕ
  pub items : rest.items.now ≡ star.items.now
  pub name : star.name.now ≡ octet ∷ rest.name.now

-- a star with one octet more, where there is a star and an octet
abbrev pub FurtherGives : Option Rest → Option Rest → Type 0
FurtherGives None further = further ≡ None
FurtherGives (Some star) None = star.name.now ≡ []
FurtherGives (Some star) (Some rest) = IsFurther star rest

-- the pattern behind a star matches where the star has one octet or more
abbrev pub later : List Item → List ℕ → Bool
later items [] = false
later items (c ∷ name) = matches (Star ∷ items) name

-- parts that are no stars took an octet each since the last star
pub record IsSinceStar (star at : Rest) : Type 0 where
  pub run : List Item
  pub taken : List ℕ
  pub no_star : IsTrue (list_all (λ i. not (is_star i)) run)
  pub items : items_left star ≡ run ++ items_left at
  pub name : star.name.now ≡ taken ++ at.name.now
  pub long : length taken ≡ length run

-- before the first star the pattern matches where what is left of it does
pub record IsFirstWalk (pattern : List Item) (name : List ℕ) (at : Rest) : Type 0 where
  pub same : matches pattern name ≡ goes at
  pub parts : length (items_left at) ≤ length pattern
  pub octets : length at.name.now ≤ length name

-- behind a star it matches where what is left does, or where that star has more octets
pub record IsStarWalk (pattern : List Item) (name : List ℕ) (star at : Rest) : Type 0 where
  pub same : matches pattern name ≡ goes at || later (items_left star) star.name.now
  pub since : IsSinceStar star at
  pub parts : length (items_left star) ≤ length pattern
  pub octets : length star.name.now ≤ length name

-- the walk has not missed a match
abbrev pub IsWalk : List Item → List ℕ → Option Rest → Rest → Type 0
IsWalk pattern name None at = IsFirstWalk pattern name at
IsWalk pattern name (Some star) at = IsStarWalk pattern name star at

-- the steps that can be left, where a pattern has so many parts and a name so many octets
abbrev pub steps_left : ℕ → ℕ → Option Rest → Rest → ℕ
steps_left parts octets None at =
    ((parts + 1) * (octets + 1) + octets) * (parts + 1) + length (items_left at)
steps_left parts octets (Some star) at =
    (length (items_left star) * (octets + 1) + length star.name.now) * (parts + 1)
    + length (items_left at)
