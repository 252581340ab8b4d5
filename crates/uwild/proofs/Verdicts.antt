-- The last pattern that matches decides.
use Rattle.std.proofs.Common.{◌≡◌, ℕ, true, false, List, [], ◌∷◌, ◌++◌, map, Option, None, Some}
use Rattle.std.proofs.Common.{refl, ap, ◌∙◌, inl, inr}
use Rattle.std.specs.Prelude.{filter, unwrap_or}
use Rattle.std.specs.List.{last_or}
use Rattle.std.proofs.lemmas.Bool.{cases_Bool}
use Rattle.std.proofs.lemmas.List.{map-append}
use Rattle.news_terms.specs.Pattern.{Marked, Verdict, matches, verdict, Fail}
use Rattle.uwild.specs.declared.pattern.Pattern.{Pattern}
use Rattle.uwild.specs.Expression.{verdict_view, pattern_view, item_view}

-- the mark of the last pattern that matches, else another
abbrev last_mark : (name : List ℕ) → Option Verdict → List Marked → Option Verdict
last_mark name other marked =
    last_or other (map (λ m. m.mark) (filter (λ m. matches m.pattern name) marked))

-- it is that of the last pattern, where that matches
ends_with : (name : List ℕ) (other : Option Verdict) (before : List Marked) (last : Marked)
    → matches last.pattern name ≡ true
    → last_mark name other (before ++ last ∷ []) ≡ Some last.mark
ends_with name other [] last is = rw is refl
ends_with name other (m ∷ before) last is = elim (cases_Bool (matches m.pattern name)) [
  | inl t ↦ rw t (ends_with name (Some m.mark) before last is)
  | inr f ↦ rw f (ends_with name other before last is)
]

-- and where that doesn't, it is that of those before
ends_without : (name : List ℕ) (other : Option Verdict) (before : List Marked) (last : Marked)
    → matches last.pattern name ≡ false
    → last_mark name other (before ++ last ∷ []) ≡ last_mark name other before
ends_without name other [] last is = rw is refl
ends_without name other (m ∷ before) last is = elim (cases_Bool (matches m.pattern name)) [
  | inl t ↦ rw t (ends_without name (Some m.mark) before last is)
  | inr f ↦ rw f (ends_without name other before last is)
]

-- where the last pattern matches, its mark is the verdict
pub last_decides : (name : List ℕ) (patterns before : List Pattern) (last : Pattern)
    → patterns ≡ before ++ last ∷ [] → matches (map item_view last.items.items) name ≡ true
    → verdict (map pattern_view patterns) name ≡ verdict_view last.mark
last_decides name patterns before last cut is =
    ap (λ (all : List Pattern). verdict (map pattern_view all) name) cut
    ∙ ap (λ (all : List Marked). verdict all name) (map-append pattern_view before (last ∷ []))
    ∙ ap (λ (mark : Option Verdict). unwrap_or mark Fail)
    (ends_with name None (map pattern_view before) (pattern_view last) is)

-- where it doesn't, those before decide
pub last_passes : (name : List ℕ) (patterns before : List Pattern) (last : Pattern)
    → patterns ≡ before ++ last ∷ [] → matches (map item_view last.items.items) name ≡ false
    → verdict (map pattern_view patterns) name ≡ verdict (map pattern_view before) name
last_passes name patterns before last cut is =
    ap (λ (all : List Pattern). verdict (map pattern_view all) name) cut
    ∙ ap (λ (all : List Marked). verdict all name) (map-append pattern_view before (last ∷ []))
    ∙ ap (λ (mark : Option Verdict). unwrap_or mark Fail)
    (ends_without name None (map pattern_view before) (pattern_view last) is)
