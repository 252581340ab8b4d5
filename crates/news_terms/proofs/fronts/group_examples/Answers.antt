use Rattle.std.proofs.Common.{◌≡◌, ◌≤◌, refl, arith}
use Rattle.news_terms.specs.PlaceExamples.{eight, six}
use Rattle.news_terms.proofs.fronts.group_examples.Goals as goal

pub returns-clause-too_large : goal.returns-clause-too_large
returns-clause-too_large c = λ h. let room : 7 ≤ 6 = h.room 1 six refl in omega (arith, room)

pub returns-clause-number_twice : goal.returns-clause-number_twice
returns-clause-number_twice c =
    λ h. let same : 0 ≡ 1 = h.own 0 1 eight (record six { number = 0 }) refl refl refl in
    omega (arith, same)
