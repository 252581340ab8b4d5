-- What is wrong with each.
use Rattle.std.proofs.Common.{◌≡◌, ℕ, zero, suc, ◌≤◌, [], ◌∷◌, length, slice_get, Some, refl}
use Rattle.std.proofs.Common.{ap, arith}
use Rattle.std.proofs.lemmas.List.Elements.{All-head}
use Rattle.std.specs.Prelude.{unwrap_or}
use Rattle.news_terms.specs.Settings.{IsSoundBuffer}
use Rattle.news_terms.specs.Places.{Group, Interleave}
use Rattle.news_terms.specs.PlaceExamples.{eight, six, one_of_eight, eight_then_six}
use Rattle.news_terms.proofs.settings.group_examples.Goals as goal

pub returns-clause-number_twice : goal.returns-clause-number_twice
returns-clause-number_twice c =
    λ h. let same = h.apart 0 1 eight (record six { number = 0 }) refl refl refl in
    omega (arith, same)

pub returns-clause-unsound_buffer : goal.returns-clause-unsound_buffer
returns-clause-unsound_buffer c =
    λ h. let sound = All-head IsSoundBuffer (record eight { blocks = 0 }) [] h.buffers in
    let some : 1 ≤ 0 = sound.some in omega (arith, some)

pub returns-clause-no_buffer : goal.returns-clause-no_buffer
returns-clause-no_buffer c =
    λ h. let some : 1 ≤ 0 = All-head (λ (group : Group). 1 ≤ length group.buffers)
    (record { mode = Interleave; buffers = [] }) [] h.filled in
    omega (arith, some)

-- no place of the list has the buffer of six
not_listed : (k : ℕ) → slice_get (eight ∷ []) k ≡ Some six → ⊥
not_listed zero e =
    let number : 0 ≡ 1 = ap (λ o. (unwrap_or o eight).number) e in omega (arith, number)
not_listed (suc k) e = cc e

pub returns-clause-unlisted : goal.returns-clause-unlisted
returns-clause-unlisted c =
    λ h. let listed = h.named 0 1 six
    (record { group = eight_then_six; is_group = refl; is_buffer = refl }) in
    not_listed listed.0 listed.1

-- nor one of seven blocks with the number of eight
not_listed_smaller : (k : ℕ) → slice_get (eight ∷ []) k ≡ Some (record eight { blocks = 7 }) → ⊥
not_listed_smaller zero e =
    let blocks : 8 ≡ 7 = ap (λ o. (unwrap_or o eight).blocks) e in omega (arith, blocks)
not_listed_smaller (suc k) e = cc e

pub returns-clause-other_blocks : goal.returns-clause-other_blocks
returns-clause-other_blocks c =
    λ h. let smaller : Group =
    record { mode = Interleave; buffers = record eight { blocks = 7 } ∷ [] } in
    let listed = h.named 0 0 (record eight { blocks = 7 })
    (record { group = smaller; is_group = refl; is_buffer = refl }) in
    not_listed_smaller listed.0 listed.1

pub returns-clause-in_two_groups : goal.returns-clause-in_two_groups
returns-clause-in_two_groups c =
    λ h. let same = h.once 0 1 0 0 eight eight
    (record { group = one_of_eight; is_group = refl; is_buffer = refl })
    (record { group = one_of_eight; is_group = refl; is_buffer = refl }) refl in
    let group : 0 ≡ 1 = same.0 in omega (arith, group)

pub returns-clause-twice_in_a_group : goal.returns-clause-twice_in_a_group
returns-clause-twice_in_a_group c =
    λ h. let both : Group = record { mode = Interleave; buffers = eight ∷ eight ∷ [] } in
    let same = h.once 0 0 0 1 eight eight
    (record { group = both; is_group = refl; is_buffer = refl })
    (record { group = both; is_group = refl; is_buffer = refl }) refl in
    let index : 0 ≡ 1 = same.1 in omega (arith, index)
