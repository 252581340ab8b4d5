use Rattle.std.proofs.Common.{◌≡◌, ℕ, zero, suc, ◌+◌, ◌≤◌, [], ◌∷◌, slice_get, Some, ap, arith}
use Rattle.std.proofs.lemmas.List.Elements.{All-head}
use Rattle.std.proofs.lemmas.Option.{none-some, same_Some}
use Rattle.news_terms.specs.CourseExamples.{article_at}
use Rattle.news_terms.specs.Courses.{LiesInGroup}
use Rattle.news_terms.specs.PlaceExamples.{eight, six, eight_then_six}
use Rattle.news_terms.specs.Places.{Buffer}
use Rattle.news_terms.proofs.courses.laid_examples.Goals as goal

-- the buffer that the group hasn't
abbrev third : Buffer
third = record eight { number = 2 }

-- it is none of the two
none_third : (i : ℕ) → slice_get (eight ∷ six ∷ []) i ≡ Some third → ⊥
none_third zero there =
    let same : 0 ≡ 2 = ap (λ (one : Buffer). one.number) (same_Some eight third there) in
    omega (arith, same)
none_third (suc zero) there =
    let same : 1 ≡ 2 = ap (λ (one : Buffer). one.number) (same_Some six third there) in
    omega (arith, same)
none_third (suc (suc i)) there = none-some third there

pub returns-clause-outside : goal.returns-clause-outside
returns-clause-outside c = λ laid.
    let ends : 6 + 3 ≤ 8 =
    (All-head (LiesInGroup eight_then_six) (article_at eight 2 6 3) [] laid.within).ends.ends in
    omega (arith, ends)

pub returns-clause-other : goal.returns-clause-other
returns-clause-other c = λ laid.
    let among =
    (All-head (LiesInGroup eight_then_six) (article_at third 2 0 3) [] laid.within).among in
    none_third among.index among.there
