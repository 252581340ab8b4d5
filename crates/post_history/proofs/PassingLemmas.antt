-- What is passed by older and by newer fronts.
use Rattle.std.proofs.Common.{◌≡◌, ◌∙◌, ◌<◌, ◌≤◌, ℕ, ◌+◌, ◌*◌, ◌==◌, true, false, List, []}
use Rattle.std.proofs.Common.{◌∷◌, length, map, Some, slice_get, nat_lt, refl, zero, suc}
use Rattle.std.proofs.Common.{ap, arith, get_or, inl, inr, subst, sym, ◌≢◌}
use Rattle.std.proofs.lemmas.Option.{get_or_from_slice_get}
use Rattle.std.proofs.lemmas.Bool.{cases_Bool, false≢true}
use Rattle.std.proofs.lemmas.Bool.Decides.{nat_tests}
use Rattle.cyc_buffer.specs.declared.answers.Front.{Front}
use Rattle.id_history.specs.Expiry.{passed_view}
use Rattle.news_terms.specs.Token.{Token}
use Rattle.relay_model.specs.Claims.{Passed, is_passed}
use Rattle.post_history.specs.Remembering.{AreLater, IsLaterFront}

-- each of the old fronts, at its place, is one of the new ones, or that is further on
abbrev pub IsLaterEach : (old new : List Front) → Type 0
IsLaterEach [] new = Unit {0}
IsLaterEach (o ∷ old) [] = ⊥
IsLaterEach (o ∷ old) (n ∷ new) = IsLaterFront o n × IsLaterEach old new

-- the front of the token's own buffer alone says whether the token is passed
passed_own : (buffer blocks front : ℕ) (others : List Passed) (token : Token)
    → (buffer == token.buffer) ≡ true
    → is_passed (record { buffer = buffer; blocks = blocks; front = front } ∷ others) token
    ≡ nat_lt (token.cycle * blocks + token.first + blocks) front
passed_own buffer blocks front others token is = rw is refl

passed_other : (buffer blocks front : ℕ) (others : List Passed) (token : Token)
    → (buffer == token.buffer) ≡ false
    → is_passed (record { buffer = buffer; blocks = blocks; front = front } ∷ others) token
    ≡ is_passed others token
passed_other buffer blocks front others token is = rw is refl

-- so what is passed by the old ones is by the new ones
pub later_passes : (old new : List Front) → IsLaterEach old new → AreLater old new
later_passes [] new later token passed = absurd (false≢true passed)
later_passes (o ∷ old) [] later token passed = absurd later
later_passes (o ∷ old) (n ∷ new) later token passed =
    let first = later.0 in
    elim (cases_Bool (o.buffer == token.buffer)) [
      | inl own ↦
          let old_is : nat_lt (token.cycle * o.blocks + token.first + o.blocks) o.front ≡ true =
          sym (passed_own o.buffer o.blocks o.front (map passed_view old) token own) ∙ passed in
          let below : token.cycle * o.blocks + token.first + o.blocks < o.front =
          grind (arith, nat_tests) in
          let new_own : (n.buffer == token.buffer) ≡ true = rw first.buffer_is own in
          let further : token.cycle * n.blocks + token.first + n.blocks < n.front =
          rw first.blocks_are (omega (arith, below, first.further)) in
          let new_is : nat_lt (token.cycle * n.blocks + token.first + n.blocks) n.front ≡ true =
          grind (arith, nat_tests) in
          passed_own n.buffer n.blocks n.front (map passed_view new) token new_own ∙ new_is
      | inr other ↦
          let new_other : (n.buffer == token.buffer) ≡ false = rw first.buffer_is other in
          passed_other n.buffer n.blocks n.front (map passed_view new) token new_other
          ∙ later_passes old new later.1 token
          (sym (passed_other o.buffer o.blocks o.front (map passed_view old) token other) ∙ passed)
    ]

-- the fronts at each place of the old ones are so
abbrev pub AreLaterTo : ℕ → (old new : List Front) → Type 0
AreLaterTo place old new =
    (j : ℕ) (o n : Front) → j < place → slice_get old j ≡ Some o → slice_get new j ≡ Some n
    → IsLaterFront o n

-- so each of them is
pub each_later : (old new : List Front) → length old ≤ length new → AreLaterTo (length old) old new
    → IsLaterEach old new
each_later [] new few later = tt
each_later (o ∷ old) [] few later = absurd (omega arith)
each_later (o ∷ old) (n ∷ new) few later = (
  later zero o n (omega arith) refl refl,
  each_later old new (omega (arith, few))
      (λ j a b below at at'. later (suc j) a b (omega (arith, below)) at at'),
)

-- one place more
pub later_more : (place : ℕ) (old new : List Front) (o n : Front) → AreLaterTo place old new
    → slice_get old place ≡ Some o → slice_get new place ≡ Some n → IsLaterFront o n
    → AreLaterTo (place + 1) old new
later_more place old new o n later at at' is j a b below here here' =
    elim (cases_Bool (j == place)) [
      | inl equal ↦
          let same : j ≡ place = grind (arith, nat_tests) in
          let first : o ≡ a = cc (at, here, same) in
          let second : n ≡ b = cc (at', here', same) in
          subst (λ (x : Front). IsLaterFront x b) first
          (subst (λ (y : Front). IsLaterFront o y) second is)
      | inr differs ↦
          let apart : j ≢ place = grind (arith, nat_tests) in
          later j a b (omega (arith, below, apart)) here here'
    ]

-- the fronts up to a place are of the buffers of their places
abbrev pub AreInOrderTo : ℕ → List Front → Type 0
AreInOrderTo place fronts =
    (j : ℕ) (front : Front) → j < place → slice_get fronts j ≡ Some front → front.buffer ≡ j

-- one place more
pub in_order_more : (place : ℕ) (fronts : List Front) (d : Front) → AreInOrderTo place fronts
    → place < length fronts → (get_or fronts place d).buffer ≡ place
    → AreInOrderTo (place + 1) fronts
in_order_more place fronts d order within is j front below there =
    elim (cases_Bool (j == place)) [
      | inl equal ↦
          let same : j ≡ place = grind (arith, nat_tests) in
          let here : slice_get fronts place ≡ Some front =
          subst (λ (k : ℕ). slice_get fronts k ≡ Some front) same there in
          ap (λ (one : Front). one.buffer) (sym (get_or_from_slice_get fronts place front d here))
          ∙ is ∙ sym same
      | inr differs ↦
          let apart : j ≢ place = grind (arith, nat_tests) in
          order j front (omega (arith, below, apart)) there
    ]
