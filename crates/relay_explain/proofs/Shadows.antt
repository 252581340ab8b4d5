-- What an entry takes that is tried before another one and covers its sizes and newsgroups.
use Rattle.std.proofs.Common.{◌≡◌, ap, subst, refl, arith, inl, inr, ℕ, Bool, true, false}
use Rattle.std.proofs.Common.{List, [], ◌∷◌, Option, None, Some, codes}
use Rattle.std.proofs.lemmas.Bool.{and_from, and_parts, le-leb, leb-true, or_right}
use Rattle.std.proofs.lemmas.Slice.Eq.{bytes_eq-Decides}
use Rattle.std.specs.Prelude.{◌&&◌, ◌||◌, ◌⊎◌, not}
use Rattle.std.specs.List.{list_all, list_any}
use Rattle.news_terms.specs.Pattern.{IsExpressionText, Marked, Match, Star, is_match, is_poison}
use Rattle.news_terms.specs.Pattern.{matches, permits, verdict}
use Rattle.news_terms.specs.StorageClass.{is_at_most, takes, takes_groups, takes_size}
use Rattle.news_terms.proofs.ExpressionReadings.{one_expression}
use Rattle.relay_conf.specs.Storage.{entry_view}
use Rattle.relay_conf.specs.declared.settings.StorageEntry.{StorageEntry}
use Rattle.relay_explain.specs.Entries.{IsSpelled, Said, covers_newsgroups, covers_sizes}
use Rattle.relay_explain.specs.Entries.{is_limit_within, shadows}

-- One of two tests that pass together passes.
or_cases : (x y : Bool) → (x || y) ≡ true → (x ≡ true) ⊎ (y ≡ true)
or_cases true y e = inl refl
or_cases false y e = inr e

-- A size within the lower limit is within the upper one.
within : (limit other : Option ℕ) (size : ℕ) → is_limit_within limit other ≡ true
    → is_at_most limit size ≡ true → is_at_most other size ≡ true
within limit None size w m = refl
within None (Some other) size w m = cc
within (Some limit) (Some other) size w m =
    le-leb size other (omega (arith, leb-true limit other w, leb-true size limit m))

-- An entry that covers another's sizes takes each size that the other takes.
sizes : (first other : StorageEntry) (size : ℕ) → covers_sizes first other ≡ true
    → takes_size (entry_view other) size ≡ true → takes_size (entry_view first) size ≡ true
sizes first other size covers taken =
    let c = and_parts _ _ covers in
    let t = and_parts _ _ taken in
    and_from _ _
    (le-leb first.smallest size
    (omega (arith, leb-true first.smallest other.smallest c.0, leb-true other.smallest size t.0)))
    (within other.largest first.largest size c.1 t.1)

-- the expression that a star alone spells
abbrev star : List Marked
star = record { mark = Match; pattern = Star ∷ [] } ∷ []

-- a star spells it
star_spelled : IsExpressionText (codes "*") star
star_spelled = record { some = omega arith; each = refl; spelled = refl }

-- A star matches each name.
star_matches : (name : List ℕ) → matches (Star ∷ []) name ≡ true
star_matches [] = refl
star_matches (c ∷ name) = star_matches name

-- So its verdict is Match.
star_verdict : (name : List ℕ) → verdict star name ≡ Match
star_verdict name = rw (star_matches name) refl

-- It matches each of some names,
all_match : (names : List (List ℕ)) → list_all (λ name. is_match (verdict star name)) names ≡ true
all_match [] = refl
all_match (name ∷ names) = rw (star_verdict name) (all_match names)

-- the first of them,
any_match : (name : List ℕ) (names : List (List ℕ))
    → list_any (λ name. is_match (verdict star name)) (name ∷ names) ≡ true
any_match name names = rw (star_verdict name) refl

-- and poisons none.
no_poison : (names : List (List ℕ))
    → list_any (λ name. is_poison (verdict star name)) names ≡ false
no_poison [] = refl
no_poison (name ∷ names) = rw (star_verdict name) (no_poison names)

-- A star takes what any expression takes, however strictly it is matched.
star_takes : (expression : List Marked) (strict rest : Bool) (groups : List (List ℕ))
    → (permits expression groups && rest) ≡ true
    → (permits star groups
    && (not strict || list_all (λ name. is_match (verdict star name)) groups)) ≡ true
star_takes expression strict rest [] taken = cc
star_takes expression strict rest (name ∷ names) taken =
    and_from _ _
    (and_from _ _ (any_match name names) (ap not (no_poison (name ∷ names))))
    (or_right (not strict) _ (all_match (name ∷ names)))

-- The same expression that is matched no more strictly takes the same.
same_takes : (expression : List Marked) (strict other : Bool) (groups : List (List ℕ))
    → (not strict || other) ≡ true
    → (permits expression groups
    && (not other || list_all (λ name. is_match (verdict expression name)) groups)) ≡ true
    → (permits expression groups
    && (not strict || list_all (λ name. is_match (verdict expression name)) groups)) ≡ true
same_takes expression false other groups no_more taken =
    and_from _ _ (and_parts _ _ taken).0 refl
same_takes expression true true groups no_more taken = taken
same_takes expression true false groups no_more taken = cc

-- An entry that covers another's newsgroups takes all newsgroups that the other takes.
newsgroups : (first other : Said) (groups : List (List ℕ)) → IsSpelled first → IsSpelled other
    → covers_newsgroups first other ≡ true
    → takes_groups (entry_view other.entry) groups ≡ true
    → takes_groups (entry_view first.entry) groups ≡ true
newsgroups first other groups spelled others covers taken =
    let by : List Marked → Type 0 = λ expression. (permits expression groups
    && (not first.entry.exactmatch
    || list_all (λ name. is_match (verdict expression name)) groups)) ≡ true in
    elim (or_cases _ _ covers) [
      | inl starred ↦
          let text = (bytes_eq-Decides first.newsgroups (codes "*")).0 starred in
          let same = one_expression (codes "*") star first.entry.newsgroups star_spelled
          (subst (λ t. IsExpressionText t first.entry.newsgroups) text spelled) in
          subst by same (star_takes other.entry.newsgroups first.entry.exactmatch _ groups taken)
      | inr both ↦
          let parts = and_parts _ _ both in
          let text = (bytes_eq-Decides first.newsgroups other.newsgroups).0 parts.0 in
          let same = one_expression other.newsgroups other.entry.newsgroups first.entry.newsgroups
          others (subst (λ t. IsExpressionText t first.entry.newsgroups) text spelled) in
          subst by same
          (same_takes other.entry.newsgroups first.entry.exactmatch other.entry.exactmatch groups
          parts.1 taken)
    ]

-- An entry that shadows another takes each article that the other takes.
pub shadowed : (first other : Said) (groups : List (List ℕ)) (size : ℕ) → IsSpelled first
    → IsSpelled other → shadows first other ≡ true
    → takes (entry_view other.entry) groups size ≡ true
    → takes (entry_view first.entry) groups size ≡ true
unfolding shadows
shadowed first other groups size spelled others shadow taken =
    let covers = and_parts _ _ (and_parts _ _ shadow).1 in
    let t = and_parts _ _ taken in
    and_from _ _ (sizes first.entry other.entry size covers.0 t.0)
    (newsgroups first other groups spelled others covers.1 t.1)
